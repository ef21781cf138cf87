-- Facts about the pins of a cell.
use Rattle.std.proofs.Common.{ℕ, zero, suc, ◌<◌, List, [], ◌∷◌, length, slice_index_or, arith}
use Rattle.std.specs.List.{AllByRecursion}
use Rattle.design_circuit.specs.declared.design.Pin.{Pin}
use Rattle.design_circuit.specs.declared.design.Pin.TheVariants.{Net, Bit, Dead}
use Rattle.design_circuit.specs.Order.{net_pins}

-- What holds of all nets among the pins holds of one pin's.
pub net_pins_one : (P : ℕ → Type 0) (pins : List Pin) (i : ℕ) (d : Pin) → AllByRecursion P (net_pins pins) → i < length pins → AllByRecursion P (net_pins (slice_index_or pins i d ∷ []))
net_pins_one P [] i d all within = absurd (omega arith)
net_pins_one P (Net net ∷ pins) zero d all within = (all.0, tt)
net_pins_one P (Bit bit ∷ pins) zero d all within = tt
net_pins_one P (Dead ∷ pins) zero d all within = tt
net_pins_one P (Net net ∷ pins) (suc i) d all within = net_pins_one P pins i d all.1 (omega arith)
net_pins_one P (Bit bit ∷ pins) (suc i) d all within = net_pins_one P pins i d all (omega arith)
net_pins_one P (Dead ∷ pins) (suc i) d all within = net_pins_one P pins i d all (omega arith)
