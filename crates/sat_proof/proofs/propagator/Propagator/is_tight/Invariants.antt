-- Without any one of the literals so far the clause no longer follows.
use Rattle.std.proofs.Common.{ℕ, ◌<◌}
use Rattle.sat_proof.specs.Premises.{all_in}
use Rattle.sat_proof.specs.Follows.{Follows, without}
use Rattle.sat_proof.specs.Propagator.{ComesBack}
use Rattle.sat_proof.proofs.propagator.Propagator.is_tight.Given as goal

abbrev pub invariant-loop-k : goal.invariant-loop-k
invariant-loop-k l = record {
  back : ComesBack l.initial.self l.self (all_in l.clauses);
  so_far : (j : ℕ) → j < l.k → Follows (all_in l.clauses) (without j l.literals) → ⊥;
}
