-- A step that begins as the step before, once its first positions are gone over.
use Rattle.std.specs.Prelude.{◌≡◌, ℕ, ◌+◌, ◌-◌, ◌*◌, ◌<◌, ◌≤◌, false, Option, List, slice_index}
use Rattle.design_cell.specs.declared.value.Value.{Value}
use Rattle.design_circuit.specs.Handed.{held_of}
use Rattle.design_circuit.specs.History.{HistoryView}
use Rattle.design_circuit.specs.Job.{Job}
use Rattle.design_circuit.specs.Order.{arguments_of_driver}
use Rattle.replay_due.specs.Due.{HasRoomFor, is_due}
use Rattle.replay_fans.specs.Nets.{driver_on, looked_at}
use Rattle.replay_history.specs.Filled.{IsFilled, replayed}
use Rattle.replay_history.specs.Still.{AreStillBefore, IsForcedSame, IsRecordedSame, LooksSame}

-- A net rests where it is forced, recorded and looks back as one step before, and those of the nets that it reads that
-- stand before a position are still.
pub record Rests (j : Job) (forced : ℕ → Option Value) (step position net : ℕ) : Type 0 where
  pub forces : IsForcedSame j forced step net
  pub recorded : IsRecordedSame j step net (j.driver net)
  pub looks : LooksSame j forced step (j.driver net)
  pub reads : AreStillBefore j forced step position (arguments_of_driver (j.driver net))

-- The step has the replay up to a position, and from there on what the step before has.
pub record IsSwept (j : Job) (forced : ℕ → Option Value) (step position : ℕ) (history : HistoryView) : Type 0 where
  pub filled : IsFilled j forced (step * j.width + position) history
  pub behind : (p : ℕ) → position ≤ p → p < j.width → held_of j history (step * j.width + p)
      ≡ replayed j forced ((step - 1) * j.width + p)

-- From a position on, each net is due or rests.
pub record AreDue (j : Job) (forced : ℕ → Option Value) (step position : ℕ) (due : List ℕ) : Type 0 where
  pub room : HasRoomFor due j.width
  pub rests : (p : ℕ) → position ≤ p → p < j.width → is_due due p ≡ false
      → Rests j forced step position (slice_index j.order p)

-- Each register is due one step later, or of the nets that it looks back at those that stand before the position are
-- still.
pub record AreAhead (j : Job) (forced : ℕ → Option Value) (step position : ℕ) (ahead : List ℕ) : Type 0 where
  pub room : HasRoomFor ahead j.width
  pub still : (p : ℕ) → p < j.width → is_due ahead p ≡ false
      → AreStillBefore j forced step position (looked_at (driver_on j p))

-- Before a step each register is due, or looks back at nets that were still.
pub record AreAwaited (j : Job) (forced : ℕ → Option Value) (step : ℕ) (due : List ℕ) : Type 0 where
  pub room : HasRoomFor due j.width
  pub looks : (p : ℕ) → p < j.width → is_due due p ≡ false → LooksSame j forced step (driver_on j p)
