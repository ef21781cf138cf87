-- What a history has of the nets of a step.
use Rattle.std.specs.Prelude.{ℕ, ◌+◌, ◌*◌, ◌≤◌, length}
use Rattle.design_cell.specs.declared.value.Value.{Value}
use Rattle.design_circuit.specs.History.{HistoryView, held_in}

-- what the history shows of a net at a step
abbrev pub shown_in : HistoryView → ℕ → ℕ → Value
shown_in history step net = (held_in history record { step = step; net = net }).shown

-- The history has every place of the step.
pub record HasStep (history : HistoryView) (step : ℕ) : Type 0 where
  pub room : step * history.nets + history.nets ≤ length history.places
