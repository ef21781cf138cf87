-- The clauses so far and the literals of the one that is read have small variables and no 0.
use Rattle.std.proofs.Common.{◌≤◌, nat_abs}
use Rattle.std.specs.List.{All}
use Rattle.sat_proof.specs.Assignment.{HasNoZero}
use Rattle.sat_proof.specs.Log.{Fit}
use Rattle.test_proof.proofs.dimacs.clauses_of.Given as goal

abbrev pub invariant-loop-k : goal.invariant-loop-k
invariant-loop-k l = record {
  fit : Fit l.vars l.clauses.items;
  no_zero_so_far : All HasNoZero l.clauses.items;
  small : All (λ n. nat_abs n ≤ l.vars) l.literals.items;
  no_zero : HasNoZero l.literals.items;
}
