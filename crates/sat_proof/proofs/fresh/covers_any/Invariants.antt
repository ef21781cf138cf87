-- None of the clauses so far is covered.
use Rattle.std.proofs.Common.{take}
use Rattle.sat_proof.specs.Premises.{all_in}
use Rattle.sat_proof.specs.Fresh.{IsUncovered}
use Rattle.sat_proof.proofs.fresh.covers_any.Given as goal

abbrev pub invariant-loop-n : goal.invariant-loop-n
invariant-loop-n l = IsUncovered l.marks (take l.n (all_in l.clauses))
