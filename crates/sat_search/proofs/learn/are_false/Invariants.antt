-- The literals so far are false.
use Rattle.std.proofs.Common.{take}
use Rattle.sat_proof.specs.Closed.{IsFalse}
use Rattle.sat_proof.specs.Code.{is_false}
use Rattle.sat_search.proofs.learn.are_false.Given as goal

abbrev pub invariant-loop-k : goal.invariant-loop-k
invariant-loop-k l = IsFalse (is_false l.marks) (take l.k l.literals)
