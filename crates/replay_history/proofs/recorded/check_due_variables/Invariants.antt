-- The variables before the next one that is due agree.
use Rattle.std.proofs.Common.{◌≡◌, ℕ, ◌<◌, ◌-◌, length}
use Rattle.replay_history.specs.Fault.{bound_at}
use Rattle.replay_history.specs.Sides.{AgreesBeside}
use Rattle.replay_history.proofs.recorded.check_due_variables.Given as goal

abbrev pub invariant-variables : goal.invariant-variables
invariant-variables l = record {
  same : l.follower ≡ l.initial.follower;
  agree : (other : ℕ) → other < l.number → other < length l.bound.bound → AgreesBeside l.sides l.moment (bound_at l.bound other);
}

abbrev pub decreases-variables : goal.decreases-variables
decreases-variables l = length l.bound.bound - l.number
