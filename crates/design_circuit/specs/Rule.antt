-- The rule of a place: what earlier places make of it in the circuit of zeros and ones.
use Rattle.std.specs.Prelude.{ℕ, ◌-◌, ◌/◌, ◌%◌, ◌==◌, Bool, Option, None, Some, List, [], ◌∷◌, ◌++◌, map, if◌then◌else◌}
use Rattle.design_cell.specs.declared.value.Value.{Value}
use Rattle.design_cell.specs.declared.value.Value.TheVariants.{Zero, One, X, Z}
use Rattle.design_cell.specs.Value.{bit_value, is_unknown}
use Rattle.design_circuit.specs.Job.{Job, at, step_of, net_of}
use Rattle.design_circuit.specs.Order.{net_pins}
use Rattle.design_circuit.specs.Register.{two_back, pins_at, updated, hold_at, has_uncertain_clock}
use Rattle.design_circuit.specs.Replay.{table_of}
use Rattle.design_circuit.specs.declared.design.Pin.{Pin}
use Rattle.design_circuit.specs.declared.design.Table.{Table}
use Rattle.design_circuit.specs.declared.design.Driver.{Driver}
use Rattle.design_circuit.specs.declared.design.Driver.TheVariants.{Input, Undriven, Constant, Copy, Cell, Register}
use Rattle.design_circuit.specs.declared.design.Latching.{Latching}
use Rattle.design_circuit.specs.declared.stim.Levels.{Levels}
use Rattle.design_circuit.specs.declared.stim.Levels.TheVariants.{Change, Hold}

-- What is born unknown is x at round 0 of a moment, and at a later round the net's bit at the step before.
abbrev pub born : Job → (ℕ → Bool) → ℕ → ℕ → Value
born j bits step net = if step % j.rounds == 0 then X else bit_value (bits (at j (step - 1) net))

-- A known value stands; in place of x and z stands the other value.
abbrev pub known_or : Value → Value → Value
known_or Zero other = Zero
known_or One other = One
known_or X other = other
known_or Z other = other

-- The bits of places as values.
abbrev pub as_values : (ℕ → Bool) → ℕ → Value
as_values bits place = bit_value (bits place)

-- Where levels hold registers, the bit at which they hold one stands, and any other value where they hold none.
abbrev pub held_or : Levels → Value → Value → Value
held_or Change held other = other
held_or Hold held other = known_or held other

-- What a register makes at a later step of the values at its pins and of its own one step back.
abbrev pub remade : Job → (ℕ → Value) → Value → ℕ → Latching → Value
remade j values kept step latching =
    held_or j.levels (hold_at j values step latching) (updated j values kept step latching)

-- A register is at its start at step 0. Later, where a clock pin isn't certain, it makes what it can of the certain
-- values; else what it makes of the bits.
abbrev pub register_rule : Job → (ℕ → Value) → (ℕ → Bool) → ℕ → ℕ → Latching → Value
register_rule j certain bits step net latching =
    if step == 0 then j.start net
    else if has_uncertain_clock j certain step latching
    then remade j certain (certain (at j (step - 1) net)) step latching
    else remade j (as_values bits) (bit_value (bits (at j (step - 1) net))) step latching

-- What a cell makes of the bits of its pins at a step.
abbrev pub cell_rule : Job → (ℕ → Bool) → ℕ → Table → List Pin → Value
cell_rule j bits step table pins = table_of j.udps table (pins_at j (as_values bits) step pins)

-- What a driver gives at a step from the certain values and the bits of earlier places: an input its recorded value
-- where that is known; any other input, and a net without a driver, what is born unknown; a constant, a copy and a cell
-- what they give on the bits of the step. No driver but a register reads the certain values.
abbrev pub rule_of : Job → (ℕ → Value) → (ℕ → Bool) → ℕ → ℕ → Driver → Value
rule_of j certain bits step net Input = known_or (j.recorded (step / j.rounds) net) (born j bits step net)
rule_of j certain bits step net Undriven = born j bits step net
rule_of j certain bits step net (Constant bit) = bit_value bit
rule_of j certain bits step net (Copy argument) = bit_value (bits (at j step argument))
rule_of j certain bits step net (Cell table pins) = cell_rule j bits step table pins
rule_of j certain bits step net (Register latching) = register_rule j certain bits step net latching

-- The rule of a place, by number.
unfoldable pub rule : Job → (ℕ → Value) → (ℕ → Bool) → ℕ → Value
rule j certain bits place = rule_of j certain bits (step_of j place) (net_of j place) (j.driver (net_of j place))

-- The argument places of a rule: those whose bits it reads. Before step 0 there is none.
abbrev pub born_arguments : Job → ℕ → ℕ → List ℕ
born_arguments j step net = if step % j.rounds == 0 then [] else at j (step - 1) net ∷ []

abbrev pub places_at : Job → ℕ → List Pin → List ℕ
places_at j step pins = map (at j step) (net_pins pins)

abbrev pub places_back : Job → List Pin → Option ℕ → List ℕ
places_back j pins None = []
places_back j pins (Some step) = places_at j step pins

abbrev pub old_places : Job → ℕ → List Pin → List ℕ
old_places j step pins = places_back j pins (two_back j step)

abbrev pub register_arguments : Job → (ℕ → Value) → ℕ → ℕ → Latching → List ℕ
register_arguments j certain step net latching =
    if step == 0 then []
    else if has_uncertain_clock j certain step latching then []
    else old_places j step latching.pins ++ (places_at j (step - 1) latching.pins ++ at j (step - 1) net ∷ [])

abbrev pub arguments_of : Job → (ℕ → Value) → ℕ → ℕ → Driver → List ℕ
arguments_of j certain step net Input =
    if is_unknown (j.recorded (step / j.rounds) net) then born_arguments j step net else []
arguments_of j certain step net Undriven = born_arguments j step net
arguments_of j certain step net (Constant bit) = []
arguments_of j certain step net (Copy argument) = at j step argument ∷ []
arguments_of j certain step net (Cell table pins) = places_at j step pins
arguments_of j certain step net (Register latching) = register_arguments j certain step net latching

unfoldable pub arguments : Job → (ℕ → Value) → ℕ → List ℕ
arguments j certain place = arguments_of j certain (step_of j place) (net_of j place) (j.driver (net_of j place))
