-- The tables of gates (IEEE 1364-2005, clause 7). A pin at z counts as x.
use Rattle.std.specs.Prelude.{◌≡◌, ℕ, ◌%◌, ◌≤◌, ◌==◌, List, [], ◌∷◌, count_by, if◌then◌else◌}
use Rattle.std.specs.List.{list_any, list_all}
use Rattle.design_cell.specs.Value.{is_zero, is_one, is_unknown, read, complement_of}
use Rattle.design_cell.specs.declared.value.Value.{Value}
use Rattle.design_cell.specs.declared.value.Value.TheVariants.{Zero, One, X}
use Rattle.design_cell.specs.declared.gate.Gate.{Gate}
use Rattle.design_cell.specs.declared.gate.Gate.TheVariants.{And, Nand, Or, Nor, Xor, Xnor, Buf, Not}

-- A gate has 1 to 10 inputs, buf and not have one (profile).
abbrev pub FitsGate : Gate → ℕ → Type 0
FitsGate And inputs = (1 ≤ inputs) × (inputs ≤ 10)
FitsGate Nand inputs = (1 ≤ inputs) × (inputs ≤ 10)
FitsGate Or inputs = (1 ≤ inputs) × (inputs ≤ 10)
FitsGate Nor inputs = (1 ≤ inputs) × (inputs ≤ 10)
FitsGate Xor inputs = (1 ≤ inputs) × (inputs ≤ 10)
FitsGate Xnor inputs = (1 ≤ inputs) × (inputs ≤ 10)
FitsGate Buf inputs = inputs ≡ 1
FitsGate Not inputs = inputs ≡ 1

-- 0 where a pin is 0, 1 where every pin is 1, else x
abbrev pub and_of : List Value → Value
and_of pins = if list_any is_zero pins then Zero else if list_all is_one pins then One else X

-- 1 where a pin is 1, 0 where every pin is 0, else x
abbrev pub or_of : List Value → Value
or_of pins = if list_any is_one pins then One else if list_all is_zero pins then Zero else X

-- x where a pin is x, else 1 for an odd number of pins at 1, and 0 for an even one
abbrev pub xor_of : List Value → Value
xor_of pins = if list_any is_unknown pins then X else if count_by is_one pins % 2 == 1 then One else Zero

-- the one pin
abbrev pub buf_of : List Value → Value
buf_of [] = X
buf_of (pin ∷ pins) = read pin

abbrev pub gate_of : Gate → List Value → Value
gate_of And pins = and_of pins
gate_of Nand pins = complement_of (and_of pins)
gate_of Or pins = or_of pins
gate_of Nor pins = complement_of (or_of pins)
gate_of Xor pins = xor_of pins
gate_of Xnor pins = complement_of (xor_of pins)
gate_of Buf pins = buf_of pins
gate_of Not pins = complement_of (buf_of pins)
