-- The row stands at the step, or before it.
use Rattle.std.proofs.Common.{◌≡◌, ◌-◌, ◌≤◌}
use Rattle.report_bits.proofs.rows.bring_wave.Given as goal

abbrev pub invariant-steps : goal.invariant-steps
invariant-steps l = record {
  wave : l.row.wave ≡ l.wave;
  low : l.row.step ≤ l.step;
}

abbrev pub decreases-steps : goal.decreases-steps
decreases-steps l = l.step - l.row.step
