-- The literals so far are false, but for the other one that is watched.
use Rattle.std.proofs.Common.{◌≡◌, ◌≢◌, ℕ, ◌<◌, true}
use Rattle.sat_proof.specs.Code.{is_false}
use Rattle.sat_proof.specs.Status.{literal_at}
use Rattle.sat_proof.proofs.watched_clause.seek.Given as goal

abbrev pub invariant-loop-k : goal.invariant-loop-k
invariant-loop-k l = (i : ℕ) → i < l.k → literal_at l.literals i ≢ literal_at l.others l.twin → is_false l.marks (literal_at l.literals i) ≡ true
