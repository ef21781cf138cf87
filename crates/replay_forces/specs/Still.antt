-- Values that stay from one step to the next, and what is due where they move. No contract of a public call names
-- these.
use Rattle.std.specs.Prelude.{◌≡◌, ◌≢◌, ℕ, ◌+◌, ◌-◌, ◌*◌, ◌<◌, ◌≤◌, false, List, ◌∷◌, length, slice_index}
use Rattle.std.specs.List.{AllByRecursion}
use Rattle.design_cell.specs.declared.value.Value.{Value}
use Rattle.design_circuit.specs.Job.{Job, at}
use Rattle.design_circuit.specs.Order.{arguments_of_driver, position_of}
use Rattle.replay_fans.specs.Nets.{driver_on, looked_at}
use Rattle.replay_fans.specs.Marks.{OnlyMore}
use Rattle.replay_due.specs.Due.{HasRoomFor, is_due}
use Rattle.wave_proved.specs.Row.{anew_behind, anew_next, anew_number, anew_position, nth_anew}
use Rattle.wave_bytes.specs.declared.anew.Anew.{Anew}

-- A net has at a step the value that it had one step before.
abbrev pub IsStill : Job → (ℕ → Value) → ℕ → ℕ → Type 0
IsStill j values step net = values (at j step net) ≡ values (at j (step - 1) net)

-- The values of a step of so many nets at the positions from a first one up to a next are those of a step before.
abbrev pub AreStillFrom : (ℕ → Value) → ℕ → ℕ → ℕ → ℕ → Type 0
AreStillFrom values width step first next = (position : ℕ) → first ≤ position → position < next
    → values (step * width + position) ≡ values ((step - 1) * width + position)

-- Places of a step in its order, such that the values of the step are still between one and the next.
pub record AreMoves (j : Job) (values : ℕ → Value) (step : ℕ) (moves : List Anew) : Type 0 where
  pub start : (i : ℕ) → i < length moves → step * j.width ≤ anew_number (nth_anew moves i)
  pub inside : (i : ℕ) → i < length moves → anew_position j step moves i < j.width
  pub rising : (i : ℕ) → i < length moves → anew_behind j step moves i ≤ anew_position j step moves i
  pub still : (i : ℕ) → i ≤ length moves
      → AreStillFrom values j.width step (anew_behind j step moves i) (anew_next j step moves i)

-- Those of the nets that stand before a position of the order are still.
abbrev pub AreStillTo : Job → (ℕ → Value) → ℕ → ℕ → List ℕ → Type 0
AreStillTo j values step position nets =
    AllByRecursion (λ net. position_of j.order net < position → IsStill j values step net) nets

-- the net at a position and those that its driver reads in the step, and those that its register looks back at
abbrev pub watched : Job → ℕ → List ℕ
watched j position = slice_index j.order position ∷ arguments_of_driver (driver_on j position)

abbrev pub looked_on : Job → ℕ → List ℕ
looked_on j position = looked_at (driver_on j position)

-- Each position is due, or of its nets those that stand before a position are still.
pub record AreMarkedTo (j : Job) (values : ℕ → Value) (nets_of : ℕ → List ℕ)
    (step position : ℕ) (due : List ℕ) : Type 0 where
  pub room : HasRoomFor due j.width
  pub still : (p : ℕ) → p < j.width → is_due due p ≡ false → AreStillTo j values step position (nets_of p)

-- The positions become due that have the net at a position among their nets.
pub record IsMarked (j : Job) (nets_of : ℕ → List ℕ) (position : ℕ) (old new : List ℕ) : Type 0 where
  pub room : HasRoomFor new j.width
  pub more : OnlyMore old new
  pub apart : (p : ℕ) → p < j.width → is_due new p ≡ false
      → AllByRecursion (λ net. net ≢ slice_index j.order position) (nets_of p)

-- Before a step each position is due, or its register looks back at nets that were still. In the first two steps all
-- are due.
pub record AreAwaited (j : Job) (values : ℕ → Value) (step : ℕ) (due : List ℕ) : Type 0 where
  pub room : HasRoomFor due j.width
  pub later : (p : ℕ) → p < j.width → is_due due p ≡ false → 1 < step
  pub looks : (p : ℕ) → p < j.width → is_due due p ≡ false
      → AllByRecursion (IsStill j values (step - 1)) (looked_on j p)
