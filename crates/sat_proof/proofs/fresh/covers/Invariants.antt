-- The literals so far are marked.
use Rattle.std.proofs.Common.{take}
use Rattle.sat_proof.specs.Closed.{IsFalse}
use Rattle.sat_proof.specs.Code.{is_false}
use Rattle.sat_proof.proofs.fresh.covers.Given as goal

abbrev pub invariant-loop-k : goal.invariant-loop-k
invariant-loop-k l = IsFalse (is_false l.marks) (take l.k l.literals)
