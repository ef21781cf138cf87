-- Few pins have few nets.
use Rattle.std.proofs.Common.{◌≡◌, ℕ, ◌+◌, ◌-◌, ◌*◌, ◌≤◌, ◌^◌, Bool, cond, not, List, [], ◌∷◌, length, count_by, refl}
use Rattle.std.proofs.Common.{arith}
use Rattle.std.proofs.lemmas.List.{length-map}
use Rattle.std.proofs.lemmas.List.Recursion.{is_count_by}
use Rattle.std.proofs.Math.Nat.{mul-le-mul_right}
use Rattle.design_circuit.specs.declared.design.Pin.{Pin}
use Rattle.design_circuit.specs.declared.design.Pin.TheVariants.{Net, Bit, Dead}
use Rattle.design_circuit.specs.declared.design.Table.{Table}
use Rattle.design_cell.specs.Table.{Table as Primitive}
use Rattle.design_circuit.specs.Fits.{is_dead, FitsTable}
use Rattle.design_circuit.specs.Job.{Job, at}
use Rattle.design_circuit.specs.Order.{net_pins}
use Rattle.design_circuit.specs.Rule.{places_at}
use Rattle.design_wiring.proofs.Jobs.{table_few}

abbrev live : Pin → Bool
live pin = not (is_dead pin)

abbrev count_live : List Pin → ℕ
count_live [] = 0
count_live (pin ∷ pins) = cond (live pin) (1 + count_live pins) (count_live pins)

nets_counted : (pins : List Pin) → length (net_pins pins) ≤ count_live pins
nets_counted [] = omega arith
nets_counted (Net net ∷ pins) = let ih = nets_counted pins in omega (arith, ih)
nets_counted (Bit bit ∷ pins) = let ih = nets_counted pins in omega (arith, ih)
nets_counted (Dead ∷ pins) = let ih = nets_counted pins in omega (arith, ih)

-- A net pin is live.
pub nets_live : (pins : List Pin) → length (net_pins pins) ≤ count_by (λ pin. not (is_dead pin)) pins
nets_live pins =
    let counted = nets_counted pins in
    let same : count_live pins ≡ count_by live pins = is_count_by count_live live refl (λ x xs. refl) pins in
    omega (arith, counted, same)

nets_pins : (pins : List Pin) → length (net_pins pins) ≤ length pins
nets_pins [] = omega arith
nets_pins (Net net ∷ pins) = let ih = nets_pins pins in omega (arith, ih)
nets_pins (Bit bit ∷ pins) = let ih = nets_pins pins in omega (arith, ih)
nets_pins (Dead ∷ pins) = let ih = nets_pins pins in omega (arith, ih)

-- A cell has at most 10 pins.
pub cell_few : (udps : List Primitive) (table : Table) (pins : List Pin) → FitsTable udps table (length pins)
    → length (net_pins pins) ≤ 13
cell_few udps table pins fits =
    let few = table_few udps table (length pins) fits in
    let nets = nets_pins pins in
    omega (arith, few, nets)

pub places_long : (j : Job) (step : ℕ) (pins : List Pin) → length (places_at j step pins) ≡ length (net_pins pins)
places_long j step pins = length-map (net_pins pins) (at j step)

pub room_back : (w step back : ℕ) → step * w + w ≤ 2 ^ 40 → (step - back) * w + w ≤ 2 ^ 40
room_back w step back small = let low : (step - back) * w ≤ step * w = mul-le-mul_right w (omega arith) in
    omega (arith, low, small)
