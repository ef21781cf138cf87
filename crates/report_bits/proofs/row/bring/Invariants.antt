-- The row stands at the step, or before it.
use Rattle.std.proofs.Common.{◌≡◌, ◌-◌, ◌≤◌}
use Rattle.report_bits.proofs.row.bring.Given as goal

abbrev pub invariant-steps : goal.invariant-steps
invariant-steps l = record {
  history : l.replayed.history ≡ l.initial.replayed.history;
  low : l.replayed.step ≤ l.step;
}

abbrev pub decreases-steps : goal.decreases-steps
decreases-steps l = l.step - l.replayed.step
