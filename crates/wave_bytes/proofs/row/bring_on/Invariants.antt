-- Up to the position behind the places so far the row is that of the next step.
use Rattle.std.proofs.Common.{◌+◌}
use Rattle.wave_bytes.specs.Changed.{IsRowUpTo, anew_behind}
use Rattle.wave_bytes.specs.View.{job}
use Rattle.wave_bytes.proofs.row.bring_on.Given as goal

abbrev pub invariant-places : goal.invariant-places
invariant-places l = record {
  row : IsRowUpTo l.waveform l.step (anew_behind (job l.waveform) (l.step + 1) l.places l.k) l.row;
}
