-- Places that an audit has seen, step by step.
use Rattle.std.specs.Prelude.{◌≡◌, ℕ, ◌*◌, ◌<◌, List}
use Rattle.design_circuit.specs.declared.place.Place.{Place}
use Rattle.design_circuit.specs.declared.waveform.Written.{Written}
use Rattle.design_circuit.specs.Filling.{IsPlace}
use Rattle.design_circuit.specs.History.{HistoryView}
use Rattle.design_circuit.specs.Row.{RowView}
use Rattle.wave_proved.specs.Contents.{Contents, job, written_of}
use Rattle.report_audit.specs.Found.{AreFound, listed_below, open_below}
use Rattle.report_audit.specs.Listed.{IsAudit}
use Rattle.report_audit.specs.declared.found.Found.{Found}

-- The listed ones among the first n places are told, and the open ones counted.
pub record AreSeen (c : Contents) (replay : HistoryView) (n : ℕ) (listed : List Found) (unsure : ℕ) : Type 0 where
  pub told : AreFound c replay (listed_below c replay n) listed
  pub counted : unsure ≡ open_below c replay n

-- A row of the replay is that of a step of the job, whose first place has the number.
pub record BeginsStep (c : Contents) (row : RowView) (first : ℕ) : Type 0 where
  pub audit : IsAudit c row.history
  pub step : row.step < (job c).moments * (job c).rounds
  pub first_of : first ≡ row.step * (job c).width

-- A place of the job stands in the step of a row of the replay, and has this in the wave.
pub record StandsInRow (c : Contents) (row : RowView) (place : Place) (written : Written) : Type 0 where
  pub audit : IsAudit c row.history
  pub within : IsPlace (job c) place
  pub step : place.step ≡ row.step
  pub written_is : written ≡ written_of c place
