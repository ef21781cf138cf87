-- The ends behind the places so far are those of the step, or at their places stands what stood one step before.
use Rattle.std.proofs.Common.{ℕ, ◌<◌}
use Rattle.report_bits.specs.Ends.{AreBrought, IsWrittenIn}
use Rattle.wave_proved.specs.Contents.{job}
use Rattle.wave_proved.specs.Row.{anew_behind}
use Rattle.report_bits.proofs.ends.Ends.put_anew.Given as goal

abbrev pub invariant-places : goal.invariant-places
invariant-places l = record {
  brought : AreBrought l.wave l.step l.initial.self.ends.items l.self.ends.items;
  written : (position : ℕ) → position < anew_behind (job l.wave) l.step l.places l.anew-index
      → IsWrittenIn l.wave l.step l.self.ends.items position;
}
