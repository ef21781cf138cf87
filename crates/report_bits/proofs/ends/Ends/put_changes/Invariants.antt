-- The ends of the nets so far are those of the step, and each other is as it was.
use Rattle.std.proofs.Common.{◌≡◌, ℕ, ◌<◌}
use Rattle.design_circuit.specs.Order.{position_of}
use Rattle.base_ledger.specs.Change.{change_position, nth_change}
use Rattle.report_bits.specs.Ends.{AreBrought, end_in, nth_end}
use Rattle.report_bits.proofs.ends.Ends.put_changes.Given as goal

abbrev pub invariant-changes : goal.invariant-changes
invariant-changes l = record {
  brought : AreBrought l.wave l.step l.initial.self.ends.items l.self.ends.items;
  listed : (i : ℕ) → i < l.change-index
      → nth_end l.self.ends.items (position_of l.wave.order (change_position (nth_change l.changes i)))
      ≡ end_in l.wave l.step (position_of l.wave.order (change_position (nth_change l.changes i)));
}
