-- The ends so far are those of the step.
use Rattle.std.proofs.Common.{◌≡◌, ℕ, ◌<◌, length}
use Rattle.report_bits.specs.Ends.{end_in, nth_end}
use Rattle.report_bits.proofs.ends.Ends.put_all.Given as goal

abbrev pub invariant-positions : goal.invariant-positions
invariant-positions l = record {
  long : length l.self.ends.items ≡ length l.wave.design.nets;
  each : (p : ℕ) → p < l.position → nth_end l.self.ends.items p ≡ end_in l.wave l.step p;
}
