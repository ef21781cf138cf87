-- Two rows of a history that go on from moment to moment.
use Rattle.std.specs.Prelude.{◌≡◌, ℕ, ◌-◌, ◌<◌}
use Rattle.design_circuit.specs.History.{HistoryView}
use Rattle.design_circuit.specs.Row.{RowView}
use Rattle.design_circuit.specs.Settled.{last_round}
use Rattle.recording_writer.specs.Steps.{HasStep}

-- A history and one of its moments, which have so many rounds each.
pub record MomentView : Type 0 where
  pub history : HistoryView
  pub rounds : ℕ
  pub moment : ℕ

-- The last step of the moment.
abbrev pub moment_end : MomentView → ℕ
moment_end view = last_round view.rounds view.moment

-- That of the moment before; at the first moment, its own.
abbrev pub end_before : MomentView → ℕ
end_before view = last_round view.rounds (view.moment - 1)

-- The row of a history at a step.
abbrev pub row_at_step : HistoryView → ℕ → RowView
row_at_step history step = record { history = history; step = step }

-- A moment of a history.
abbrev pub moment_view : HistoryView → ℕ → ℕ → MomentView
moment_view history rounds moment = record { history = history; rounds = rounds; moment = moment }

-- Each net has a place at both steps.
pub record HasEnds (view : MomentView) : Type 0 where
  pub here : HasStep view.history (moment_end view)
  pub before : HasStep view.history (end_before view)

-- One row stands at the last step of a moment, one at that of the moment before.
pub record StandAt (view : MomentView) (row before : RowView) : Type 0 where
  pub some : 0 < view.rounds
  pub here : row ≡ row_at_step view.history (moment_end view)
  pub before_ : before ≡ row_at_step view.history (end_before view)
