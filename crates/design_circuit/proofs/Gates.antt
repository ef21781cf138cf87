-- Gates on known values.
use Rattle.std.proofs.Common.{◌≡◌, ◌%◌, ◌==◌, Bool, true, false, List, [], ◌∷◌, length, count_by, if◌then◌else◌, refl, arith}
use Rattle.std.specs.List.{AllByRecursion, list_any}
use Rattle.design_cell.specs.declared.value.Value.{Value}
use Rattle.design_cell.specs.declared.value.Value.TheVariants.{Zero, One, X, Z}
use Rattle.design_cell.specs.declared.gate.Gate.{Gate}
use Rattle.design_cell.specs.declared.gate.Gate.TheVariants.{And, Nand, Or, Nor, Xor, Xnor, Buf, Not}
use Rattle.design_cell.specs.Value.{IsKnown, is_one, is_unknown, complement_of}
use Rattle.design_cell.specs.Gate.{FitsGate, and_of, or_of, xor_of, buf_of, gate_of}

complement_known : (v : Value) → IsKnown v → IsKnown (complement_of v)
complement_known Zero known = tt
complement_known One known = tt
complement_known X known = known
complement_known Z known = known

and_known : (pins : List Value) → AllByRecursion IsKnown pins → IsKnown (and_of pins)
and_known [] known = tt
and_known (Zero ∷ pins) known = tt
and_known (One ∷ pins) known = and_known pins known.1
and_known (X ∷ pins) known = absurd known.0
and_known (Z ∷ pins) known = absurd known.0

or_known : (pins : List Value) → AllByRecursion IsKnown pins → IsKnown (or_of pins)
or_known [] known = tt
or_known (Zero ∷ pins) known = or_known pins known.1
or_known (One ∷ pins) known = tt
or_known (X ∷ pins) known = absurd known.0
or_known (Z ∷ pins) known = absurd known.0

none_unknown : (pins : List Value) → AllByRecursion IsKnown pins → list_any is_unknown pins ≡ false
none_unknown [] known = refl
none_unknown (Zero ∷ pins) known = none_unknown pins known.1
none_unknown (One ∷ pins) known = none_unknown pins known.1
none_unknown (X ∷ pins) known = absurd known.0
none_unknown (Z ∷ pins) known = absurd known.0

either_known : (odd : Bool) → IsKnown (if odd then One else Zero)
either_known true = tt
either_known false = tt

xor_known : (pins : List Value) → AllByRecursion IsKnown pins → IsKnown (xor_of pins)
xor_known pins known = rw (none_unknown pins known) (either_known (count_by is_one pins % 2 == 1))

buf_known : (pins : List Value) → AllByRecursion IsKnown pins → length pins ≡ 1 → IsKnown (buf_of pins)
buf_known [] known one = absurd (omega arith)
buf_known (Zero ∷ pins) known one = tt
buf_known (One ∷ pins) known one = tt
buf_known (X ∷ pins) known one = absurd known.0
buf_known (Z ∷ pins) known one = absurd known.0

-- A gate on as many pins as it takes, all known, gives a known value.
pub gate_known : (gate : Gate) (pins : List Value) → FitsGate gate (length pins) → AllByRecursion IsKnown pins → IsKnown (gate_of gate pins)
gate_known And pins fits known = and_known pins known
gate_known Nand pins fits known = complement_known (and_of pins) (and_known pins known)
gate_known Or pins fits known = or_known pins known
gate_known Nor pins fits known = complement_known (or_of pins) (or_known pins known)
gate_known Xor pins fits known = xor_known pins known
gate_known Xnor pins fits known = complement_known (xor_of pins) (xor_known pins known)
gate_known Buf pins fits known = buf_known pins known fits
gate_known Not pins fits known = complement_known (buf_of pins) (buf_known pins known fits)
