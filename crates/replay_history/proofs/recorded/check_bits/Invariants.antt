-- The bits so far agree.
use Rattle.std.proofs.Common.{◌≡◌, ℕ, ◌<◌}
use Rattle.replay_history.specs.Fault.{BitAgrees}
use Rattle.replay_history.specs.Sides.{job_beside}
use Rattle.replay_history.proofs.recorded.check_bits.Given as goal

abbrev pub invariant-bits : goal.invariant-bits
invariant-bits l = record {
  same : l.follower ≡ l.initial.follower;
  agree : (other : ℕ) → other < l.bit → BitAgrees (job_beside l.sides) l.sides.recording.now l.moment l.variable other;
}
