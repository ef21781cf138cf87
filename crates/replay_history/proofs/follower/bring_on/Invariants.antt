-- The row of the same history stands at the step or before it, where it stood so.
use Rattle.std.proofs.Common.{◌≡◌, ◌-◌, ◌≤◌}
use Rattle.replay_history.proofs.follower.bring_on.Given as goal

abbrev pub invariant-steps : goal.invariant-steps
invariant-steps l = record {
  history : l.row.history ≡ l.initial.row.history;
  low : l.initial.row.step ≤ l.step → l.row.step ≤ l.step;
}

abbrev pub decreases-steps : goal.decreases-steps
decreases-steps l = l.step - l.row.step
