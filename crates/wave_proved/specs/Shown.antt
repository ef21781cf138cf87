-- The history that shows what the waveform of a finished wave shows.
use Rattle.std.specs.Prelude.{◌≡◌}
use Rattle.design_cell.specs.declared.value.Value.TheVariants.{X}
use Rattle.design_circuit.specs.declared.place.Place.{Place}
use Rattle.design_circuit.specs.Handed.{HasPlaces}
use Rattle.design_circuit.specs.History.{HistoryView, held_in}
use Rattle.wave_proved.specs.Contents.{Contents, IsWritten, job, written_of}

-- A history has the places of the job. Where one is written it shows what the waveform shows, and keeps x.
pub record ShowsWave (c : Contents) (history : HistoryView) : Type 0 where
  pub places : HasPlaces (job c) history
  pub held : (place : Place) → IsWritten c place
      → held_in history place ≡ record { shown = (written_of c place).value; kept = X }
