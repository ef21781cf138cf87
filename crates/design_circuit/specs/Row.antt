-- The row of a history at a step, for readers that go from step to step.
use Rattle.std.specs.Prelude.{◌≡◌, ℕ, ◌+◌, ◌-◌, ◌<◌, List, length, slice_index}
use Rattle.design_circuit.specs.History.{HasPlace, HistoryView, held_in, held_of_byte, net_place}
use Rattle.design_circuit.specs.Replay.{blank}
use Rattle.base_ledger.specs.Change.{AreInWidth, change_position, nth_change}
use Rattle.base_ledger.specs.Ledger.{row_with}
use Rattle.base_ledger.specs.declared.change.Change.{Change}

-- A history and one of its steps.
pub record RowView : Type 0 where
  pub history : HistoryView
  pub step : ℕ

abbrev pub first_row : HistoryView → RowView
first_row history = record { history = history; step = 0 }

-- The row one step later.
abbrev pub next_row : RowView → RowView
next_row row = record { history = row.history; step = row.step + 1 }

-- A byte for each net, which says what the net has at the step.
pub record AreBytesAt (history : HistoryView) (step : ℕ) (bytes : List ℕ) : Type 0 where
  pub long : length bytes ≡ history.nets
  pub held : (net : ℕ) → HasPlace history (net_place step net)
      → held_of_byte (slice_index bytes net) ≡ held_in history (net_place step net)

-- None of the changes is of the net.
abbrev pub IsUnwritten : List Change → ℕ → Type 0
IsUnwritten changes net = (i : ℕ) → i < length changes → change_position (nth_change changes i) ≡ net → ⊥

-- The changes are all that was written at a step: each is of a net of the history, every other net has what it had one
-- step before, and a row of bytes of the step before, with the changes written into it, is that of the step.
pub record AreWritten (history : HistoryView) (step : ℕ) (changes : List Change) : Type 0 where
  pub inside : AreInWidth history.nets changes
  pub others : (net : ℕ) → HasPlace history (net_place step net) → IsUnwritten changes net
      → held_in history (net_place step net) ≡ held_in history (net_place (step - 1) net)
  pub follows : (bytes : List ℕ) → AreBytesAt history (step - 1) bytes
      → AreBytesAt history step (row_with bytes changes)

-- Every place of a step is blank.
abbrev pub IsBlankAt : HistoryView → ℕ → Type 0
IsBlankAt history step =
    (net : ℕ) → HasPlace history (net_place step net) → held_in history (net_place step net) ≡ blank
