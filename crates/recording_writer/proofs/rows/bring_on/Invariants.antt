-- The row stands at the step, or before it.
use Rattle.std.proofs.Common.{◌≡◌, ◌-◌, ◌≤◌}
use Rattle.recording_writer.proofs.rows.bring_on.Given as goal

abbrev pub invariant-steps : goal.invariant-steps
invariant-steps g l = record {
  history : (g.R.Shown.view l.row).history ≡ (g.R.Shown.view l.initial.row).history;
  low : (g.R.Shown.view l.row).step ≤ l.step;
}

abbrev pub decreases-steps : goal.decreases-steps
decreases-steps g l = l.step - (g.R.Shown.view l.row).step
