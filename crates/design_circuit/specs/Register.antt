-- What a register sees of its pins, and what it makes of them. The replay, the rule and the settled test share this.
use Rattle.std.specs.Prelude.{ℕ, ◌-◌, ◌==◌, ◌&&◌, ◌||◌, Bool, false, Option, None, Some, List, map, slice_index_or}
use Rattle.std.specs.Prelude.{length, if◌then◌else◌}
use Rattle.std.specs.Int.{bit_at}
use Rattle.design_cell.specs.Below.{any_below}
use Rattle.design_cell.specs.declared.value.Value.{Value}
use Rattle.design_cell.specs.declared.value.Value.TheVariants.{X}
use Rattle.design_cell.specs.Value.{bit_value, is_unknown}
use Rattle.design_cell.specs.Hold.{hold}
use Rattle.design_cell.specs.Next.{next}
use Rattle.design_circuit.specs.Job.{Job, at, primitive_of}
use Rattle.design_circuit.specs.declared.stim.Levels.{Levels}
use Rattle.design_circuit.specs.declared.stim.Levels.TheVariants.{Change, Hold}
use Rattle.design_circuit.specs.declared.stim.StartRule.{StartRule}
use Rattle.design_circuit.specs.declared.stim.StartRule.TheVariants.{Cold, Recorded}
use Rattle.design_circuit.specs.declared.design.Pin.{Pin}
use Rattle.design_circuit.specs.declared.design.Pin.TheVariants.{Net, Bit, Dead}
use Rattle.design_circuit.specs.declared.design.Latching.{Latching}

-- The value at a pin, from the values of the nets. A dead pin is x.
abbrev pub pin_of : (ℕ → Value) → Pin → Value
pin_of nets (Net net) = nets net
pin_of nets (Bit bit) = bit_value bit
pin_of nets Dead = X

-- The values at pins at a step, from the values of places.
abbrev pub pins_at : Job → (ℕ → Value) → ℕ → List Pin → List Value
pins_at j values step pins = map (pin_of (λ net. values (at j step net))) pins

-- Step 1 sees two steps back what stands before step 0: nothing where registers start cold, step 0 where they start as
-- recorded.
abbrev pub before_start : StartRule → Option ℕ
before_start Cold = None
before_start Recorded = Some 0

-- The step that a later step sees two steps back.
abbrev pub two_back : Job → ℕ → Option ℕ
two_back j step = if step == 1 then before_start j.start_rule else Some (step - 2)

-- Where nothing stands each pin is x, and no pin is certain.
abbrev pub early_pins : List Pin → List Value
early_pins pins = map (λ (pin : Pin). X) pins

abbrev pub pins_back : Job → (ℕ → Value) → List Pin → Option ℕ → List Value
pins_back j values pins None = early_pins pins
pins_back j values pins (Some step) = pins_at j values step pins

-- A register at a later step looks two steps back and one step back.
abbrev pub old_pins : Job → (ℕ → Value) → ℕ → List Pin → List Value
old_pins j values step pins = pins_back j values pins (two_back j step)

abbrev pub new_pins : Job → (ℕ → Value) → ℕ → List Pin → List Value
new_pins j values step pins = pins_at j values (step - 1) pins

-- What it keeps then: what its primitive makes of the pins that it looks back at, and of what it kept one step before.
abbrev pub updated : Job → (ℕ → Value) → Value → ℕ → Latching → Value
updated j values kept step latching =
    next (primitive_of j.udps latching.udp) latching.clocks (old_pins j values step latching.pins)
    (new_pins j values step latching.pins) kept

-- The bit at which its pins one step back hold it whatever its state is, else x.
abbrev pub hold_at : Job → (ℕ → Value) → ℕ → Latching → Value
hold_at j values step latching = hold (primitive_of j.udps latching.udp) (new_pins j values step latching.pins)

-- One of the clock pins is x or z.
abbrev pub has_unknown_clock : ℕ → List Value → Bool
has_unknown_clock clocks values =
    any_below (length values) (λ pin. (bit_at clocks pin == 1) && is_unknown (slice_index_or values pin X))

-- A clock pin isn't certain where the register looks back at it. So where registers start cold, no clock pin is certain
-- before step 0, a constant one among them.
abbrev pub has_uncertain_clock : Job → (ℕ → Value) → ℕ → Latching → Bool
has_uncertain_clock j certain step latching =
    has_unknown_clock latching.clocks (old_pins j certain step latching.pins)
    || has_unknown_clock latching.clocks (new_pins j certain step latching.pins)

-- The same, and where levels hold registers also where it looked back one step before (at step 2, before step 0).
abbrev pub also_before : Levels → Bool → Bool
also_before Change before = false
also_before Hold before = before

abbrev pub had_uncertain_clock : Job → (ℕ → Value) → ℕ → Latching → Bool
had_uncertain_clock j certain step latching =
    has_uncertain_clock j certain step latching
    || also_before j.levels (has_uncertain_clock j certain (step - 1) latching)
