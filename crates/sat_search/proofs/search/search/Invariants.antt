-- The log so far is fresh and shorter than the limit, and the trail is ready for a round.
use Rattle.std.proofs.Common.{◌≡◌, ◌<◌, ◌-◌, length, false}
use Rattle.std.specs.List.{All}
use Rattle.sat_proof.specs.Assignment.{HasNoZero}
use Rattle.sat_proof.specs.Lines.{IsReady}
use Rattle.sat_proof.specs.Log.{AreFresh, before}
use Rattle.sat_proof.specs.Trail.{HaveMarks}
use Rattle.sat_search.proofs.search.search.Given as goal

abbrev pub invariant-rounds : goal.invariant-rounds
invariant-rounds l = record {
  short : length l.log.items < l.limit;
  ready : IsReady l.propagator l.refuted (before l.query l.log.items (length l.log.items));
  size : length l.propagator.trail.marks.items ≡ length l.initial.propagator.trail.marks.items;
  room : HaveMarks l.initial.propagator.trail l.log.items;
  no_zero : l.refuted ≡ false → All HasNoZero l.query;
  fresh : AreFresh l.query l.log.items;
}

abbrev pub decreases-rounds : goal.decreases-rounds
decreases-rounds l = l.limit - length l.log.items
