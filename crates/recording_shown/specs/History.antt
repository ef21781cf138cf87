-- The history of what a finished wave shows.
use Rattle.std.specs.Prelude.{◌≡◌, ℕ, ◌*◌, ◌/◌, ◌%◌, ◌<◌, map}
use Rattle.std.specs.List.{range_with_len}
use Rattle.design_cell.specs.declared.value.Value.TheVariants.{X}
use Rattle.design_circuit.specs.History.{HistoryView}
use Rattle.design_circuit.specs.Job.{at, places_of}
use Rattle.design_circuit.specs.Replay.{Held}
use Rattle.design_circuit.specs.Waveform.{written_at}
use Rattle.wave_proved.specs.Contents.{Contents, IsFinished, job}
use Rattle.wave_proved.specs.Row.{WaveRowView}
use Rattle.wave_proved.specs.Shown.{ShowsWave}

-- A net shows at a step what the waveform shows there, and keeps x.
abbrev pub held_at : Contents → ℕ → ℕ → Held
held_at c step net = record { shown = (written_at c.written (at (job c) step net)).value; kept = X }

-- The history that has this for each place.
abbrev pub shown_history : Contents → HistoryView
shown_history c = record {
  nets = (job c).width;
  places = map (λ k. held_at c (k / (job c).width) (k % (job c).width)) (range_with_len 0 (places_of (job c)));
}

-- It shows the wave.
abbrev pub HistoryShowsWave : Type 0
HistoryShowsWave = (c : Contents) → ShowsWave c (shown_history c)

-- A row of a finished wave stands at a step, if this is one of the wave's.
pub record StandsIn (c : Contents) (step : ℕ) (row : WaveRowView) : Type 0 where
  pub wave : row.wave ≡ c
  pub finished : IsFinished c
  pub there : step < (job c).moments * (job c).rounds → row.step ≡ step
