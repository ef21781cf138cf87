-- The variables so far agree.
use Rattle.std.proofs.Common.{◌≡◌, ℕ, ◌<◌}
use Rattle.replay_history.specs.Fault.{VariableAgrees, bound_at}
use Rattle.replay_history.specs.Sides.{job_beside}
use Rattle.replay_history.proofs.recorded.check_recorded.Given as goal

abbrev pub invariant-variables : goal.invariant-variables
invariant-variables l = record {
  same : l.follower ≡ l.initial.follower;
  agree : (other : ℕ) → other < l.variable-index → VariableAgrees (job_beside l.sides) l.sides.recording.now l.moment (bound_at l.bound other);
}
