-- Nets that show what they showed one step before, and what a driver makes of them.
use Rattle.std.specs.Prelude.{◌≡◌, ℕ, ◌-◌, ◌/◌, ◌<◌, Option, List}
use Rattle.std.specs.List.{AllByRecursion}
use Rattle.design_cell.specs.declared.value.Value.{Value}
use Rattle.design_circuit.specs.Job.{Job, at}
use Rattle.design_circuit.specs.Order.{net_pins, position_of}
use Rattle.design_circuit.specs.declared.design.Driver.{Driver}
use Rattle.design_circuit.specs.declared.design.Driver.TheVariants.{Input, Undriven, Constant, Copy, Cell, Register}
use Rattle.replay_history.specs.Filled.{replayed}

-- A net shows at a step what it showed one step before.
abbrev pub IsStillAt : Job → (ℕ → Option Value) → ℕ → ℕ → Type 0
IsStillAt j forced step net =
    (replayed j forced (at j step net)).shown ≡ (replayed j forced (at j (step - 1) net)).shown

-- It shows and keeps what it did.
abbrev pub Stays : Job → (ℕ → Option Value) → ℕ → ℕ → Type 0
Stays j forced step net = replayed j forced (at j step net) ≡ replayed j forced (at j (step - 1) net)

-- Those of the nets that stand before a position of the order are still.
abbrev pub AreStillBefore : Job → (ℕ → Option Value) → ℕ → ℕ → List ℕ → Type 0
AreStillBefore j forced step position nets =
    AllByRecursion (λ net. position_of j.order net < position → IsStillAt j forced step net) nets

-- A net is forced at a step as one step before.
abbrev pub IsForcedSame : Job → (ℕ → Option Value) → ℕ → ℕ → Type 0
IsForcedSame j forced step net = forced (at j step net) ≡ forced (at j (step - 1) net)

-- An input is recorded as one step before.
abbrev pub IsRecordedSame : Job → ℕ → ℕ → Driver → Type 0
IsRecordedSame j step net Input = j.recorded (step / j.rounds) net ≡ j.recorded ((step - 1) / j.rounds) net
IsRecordedSame j step net Undriven = Unit {0}
IsRecordedSame j step net (Constant bit) = Unit {0}
IsRecordedSame j step net (Copy argument) = Unit {0}
IsRecordedSame j step net (Cell table pins) = Unit {0}
IsRecordedSame j step net (Register latching) = Unit {0}

-- A register looks back at nets that were still one step before.
abbrev pub LooksSame : Job → (ℕ → Option Value) → ℕ → Driver → Type 0
LooksSame j forced step Input = Unit {0}
LooksSame j forced step Undriven = Unit {0}
LooksSame j forced step (Constant bit) = Unit {0}
LooksSame j forced step (Copy argument) = Unit {0}
LooksSame j forced step (Cell table pins) = Unit {0}
LooksSame j forced step (Register latching) =
    (1 < step) × AllByRecursion (IsStillAt j forced (step - 1)) (net_pins latching.pins)
