-- The trail and the index are ready for the next clause, and the clauses so far are fresh.
use Rattle.std.proofs.Common.{ℕ, ◌<◌, ◌≡◌, length}
use Rattle.sat_proof.specs.Lines.{IsReady, ServesEarlier}
use Rattle.sat_proof.specs.Log.{IsFreshAt, before}
use Rattle.sat_proof.proofs.propagator.Propagator.first_stale.Given as goal

abbrev pub invariant-loop-k : goal.invariant-loop-k
invariant-loop-k l = record {
  ready : IsReady l.self l.refuted (before l.query l.log l.k);
  size : length l.self.trail.marks.items ≡ length l.fn.self.trail.marks.items;
  earlier : ServesEarlier l.earlier (before l.query l.log l.k);
  sizes : length l.earlier.seen.marks.items ≡ length l.fn.earlier.seen.marks.items;
  so_far : (j : ℕ) → j < l.k → IsFreshAt l.query l.log j;
}
