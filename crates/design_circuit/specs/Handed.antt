-- Which histories are handed in: the replay, or a blank one.
use Rattle.std.specs.Prelude.{◌≡◌, ◌⊎◌, ℕ, ◌<◌, Option, None, length, slice_index_or}
use Rattle.design_cell.specs.declared.value.Value.{Value}
use Rattle.design_circuit.specs.Circuit.{job_in}
use Rattle.design_circuit.specs.declared.circuit.Circuit.{Circuit}
use Rattle.design_circuit.specs.Job.{Job, places_of}
use Rattle.design_circuit.specs.Fits.{place_at}
use Rattle.design_circuit.specs.History.{HistoryView, held_in}
use Rattle.design_circuit.specs.Replay.{Held, blank, replay_under}

-- What a history has at the place of a number, and what it shows there.
abbrev pub held_of : Job → HistoryView → ℕ → Held
held_of j history place = held_in history (place_at j place)

abbrev pub shown_of : Job → HistoryView → ℕ → Value
shown_of j history place = (held_of j history place).shown

-- A history has exactly the places of a job.
pub record HasPlaces (j : Job) (history : HistoryView) : Type 0 where
  pub nets : history.nets ≡ j.width
  pub all : length history.places ≡ places_of j

-- A history has the places of a circuit, of which this is one.
pub record ShowsPlace (circuit : Circuit) (history : HistoryView) (place : ℕ) : Type 0 where
  pub places : HasPlaces (job_in circuit) history
  pub within : place < places_of (job_in circuit)

-- A history is the replay under forces.
pub record IsReplayUnder (j : Job) (forced : ℕ → Option Value) (history : HistoryView) : Type 0 where
  pub places : HasPlaces j history
  pub held : (place : ℕ) → place < places_of j → held_of j history place
      ≡ slice_index_or (replay_under j forced (places_of j)) place blank

abbrev pub IsReplay : Job → HistoryView → Type 0
IsReplay j history = IsReplayUnder j (λ place. None) history

-- A blank history knows nothing.
pub record IsBlank (j : Job) (history : HistoryView) : Type 0 where
  pub places : HasPlaces j history
  pub held : (place : ℕ) → place < places_of j → held_of j history place ≡ blank

-- What is handed in as a history is the replay, or is blank.
abbrev pub IsHandedIn : Job → HistoryView → Type 0
IsHandedIn j history = IsReplay j history ⊎ IsBlank j history
