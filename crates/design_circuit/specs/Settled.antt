-- When a moment has come to rest, and when a recording agrees with the replay.
use Rattle.std.specs.Prelude.{◌≡◌, ℕ, ◌+◌, ◌-◌, ◌*◌, ◌<◌, List, map}
use Rattle.design_cell.specs.declared.value.Value.{Value}
use Rattle.design_circuit.specs.Job.{Job, at}
use Rattle.design_circuit.specs.Register.{updated}
use Rattle.design_circuit.specs.Replay.{shown_at, kept_at}
use Rattle.design_circuit.specs.declared.design.Driver.{Driver}
use Rattle.design_circuit.specs.declared.design.Driver.TheVariants.{Input, Undriven, Constant, Copy, Cell, Register}

-- the last step of a moment, of so many rounds each
abbrev pub last_round : ℕ → ℕ → ℕ
last_round rounds moment = moment * rounds + rounds - 1

abbrev pub last_step : Job → ℕ → ℕ
last_step j moment = last_round j.rounds moment

-- A driver is settled at a step where the update after it gives what is kept there. Only a register is ever updated.
abbrev pub IsSettledAt : Job → ℕ → ℕ → Driver → Type 0
IsSettledAt j step net Input = Unit {0}
IsSettledAt j step net Undriven = Unit {0}
IsSettledAt j step net (Constant bit) = Unit {0}
IsSettledAt j step net (Copy argument) = Unit {0}
IsSettledAt j step net (Cell table pins) = Unit {0}
IsSettledAt j step net (Register latching) =
    updated j (shown_at j) (kept_at j (at j step net)) (step + 1) latching ≡ kept_at j (at j step net)

-- A moment is settled where each register is at its last step.
abbrev pub IsSettled : Job → ℕ → Type 0
IsSettled j moment = (net : ℕ) → net < j.width → IsSettledAt j (last_step j moment) net (j.driver net)

-- The bits of a variable agree in a moment where its nets show these values at the last step, all four values told
-- apart.
abbrev pub AgreesIn : Job → ℕ → List ℕ → List Value → Type 0
AgreesIn j moment nets values = map (λ net. shown_at j (at j (last_step j moment) net)) nets ≡ values
