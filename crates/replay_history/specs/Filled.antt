-- Histories that have the replay of the first places.
use Rattle.std.specs.Prelude.{◌≡◌, ℕ, ◌<◌, Option, slice_index_or}
use Rattle.design_cell.specs.declared.value.Value.{Value}
use Rattle.design_circuit.specs.Job.{Job, places_of}
use Rattle.design_circuit.specs.History.{HistoryView}
use Rattle.design_circuit.specs.Handed.{HasPlaces, held_of}
use Rattle.design_circuit.specs.Replay.{Held, blank, replay_under}

-- What the replay under forces has at the place of a number.
abbrev pub replayed : Job → (ℕ → Option Value) → ℕ → Held
replayed j forced place = slice_index_or (replay_under j forced (places_of j)) place blank

-- A history has what the replay has at the first n places.
pub record IsFilled (j : Job) (forced : ℕ → Option Value) (n : ℕ) (history : HistoryView) : Type 0 where
  pub places : HasPlaces j history
  pub held : (place : ℕ) → place < n → held_of j history place ≡ replayed j forced place
