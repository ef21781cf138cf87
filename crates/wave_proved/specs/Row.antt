-- The row of a wave at a step, for readers that go from step to step.
use Rattle.std.specs.Prelude.{◌≡◌, ℕ, ◌+◌}
use Rattle.wave_proved.specs.Contents.{Contents, job}
use Rattle.wave_due.specs.OfWaveBytes.{RowOf}
use Rattle.wave_due.specs.OfWaveBytes as bytes
pub use Rattle.wave_due.specs.OfWaveBytes.{anew_number, anew_written, nth_anew}
pub use Rattle.wave_due.specs.OfWaveBytes.{AreAnewAt, AreSameFrom, IsWholeLater, IsWrittenAt, anew_behind, anew_next}
pub use Rattle.wave_due.specs.OfWaveBytes.{anew_position}

-- A wave and one of its steps.
pub record WaveRowView : Type 0 where
  pub wave : Contents
  pub step : ℕ

abbrev pub first_row : Contents → WaveRowView
first_row wave = record { wave = wave; step = 0 }

-- The row of the waveform that a wave holds.
pub record IsRowBeside (wave : Contents) (row : RowOf) : Type 0 where
  pub job : job wave ≡ bytes.job row.waveform
  pub written : wave.written ≡ row.waveform.written

-- The row one step later.
abbrev pub next_row : WaveRowView → WaveRowView
next_row row = record { wave = row.wave; step = row.step + 1 }
