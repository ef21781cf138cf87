-- The moments so far have no fault.
use Rattle.std.proofs.Common.{ℕ, ◌<◌}
use Rattle.replay_history.specs.Fault.{HasNoFault}
use Rattle.replay_history.specs.Follower.{IsUpTo}
use Rattle.replay_history.specs.Sides.{job_beside}
use Rattle.replay_due.specs.Due.{HasRoomFor}
use Rattle.replay_history.proofs.moments.check_changes.Given as goal

abbrev pub invariant-moments : goal.invariant-moments
invariant-moments l = record {
  none : (earlier : ℕ) → earlier < l.moment → HasNoFault (job_beside l.sides) l.sides.recording.now l.bound earlier;
  follower : IsUpTo l.sides l.moment l.marked.follower;
  registers : HasRoomFor l.marked.registers (job_beside l.sides).width;
  variables : HasRoomFor l.marked.variables l.watchers.room;
}
