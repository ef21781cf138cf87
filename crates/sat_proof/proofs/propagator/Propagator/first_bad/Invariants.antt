-- The trail is ready for the next clause, and the clauses so far follow.
use Rattle.std.proofs.Common.{ℕ, ◌<◌, ◌≡◌, length}
use Rattle.sat_proof.specs.Lines.{IsReady}
use Rattle.sat_proof.specs.Log.{DoesFollow, before}
use Rattle.sat_proof.proofs.propagator.Propagator.first_bad.Given as goal

abbrev pub invariant-loop-k : goal.invariant-loop-k
invariant-loop-k l = record {
  ready : IsReady l.self l.refuted (before l.query l.log l.k);
  size : length l.self.trail.marks.items ≡ length l.fn.self.trail.marks.items;
  so_far : (j : ℕ) → j < l.k → DoesFollow l.query l.log j;
}
