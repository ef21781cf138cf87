-- Where a register looks back, places have values.
use Rattle.std.proofs.Common.{◌≡◌, ℕ, zero, suc, ◌+◌, ◌-◌, ◌*◌, ◌%◌, ◌<◌, ◌≤◌, ◌^◌, ◌==◌, false, List, [], ◌∷◌, length, take, replicate, refl, ap, arith}
use Rattle.std.proofs.Math.Nat.{mul-le-mul_right}
use Rattle.std.proofs.lemmas.Grind.{common_steps}
use Rattle.std.specs.List.{AllByRecursion}
use Rattle.design_cell.specs.declared.value.Value.TheVariants.{X}
use Rattle.design_circuit.specs.declared.design.Pin.{Pin}
use Rattle.design_circuit.specs.declared.design.Pin.TheVariants.{Net, Bit, Dead}
use Rattle.design_circuit.specs.Circuit.{Reach, IsSpot}
use Rattle.design_circuit.specs.declared.spot.Spot.{Spot}
use Rattle.design_circuit.specs.Fits.{Fits}
use Rattle.design_circuit.specs.Job.{Job, at}
use Rattle.design_circuit.specs.Order.{net_pins, position_of}
use Rattle.design_circuit.specs.Register.{early_pins}
use Rattle.design_circuit.proofs.Rules.{later_round, position_in}

below_step : (w t step position : ℕ) → t < step → position < w → t * w + position < step * w
below_step w t step position less within =
    let more : suc t * w ≤ step * w = mul-le-mul_right w (omega arith) in
    omega (arith, more, within)

pub reach_nets : (j : Job) → Fits j → (has : ℕ → Type 0) (step t : ℕ) (pins : List Pin) → ((k : ℕ) → k < step * j.width → has k) → t < step → AllByRecursion (λ net. net < j.width) (net_pins pins) → AllByRecursion (Reach j has t) (net_pins pins)
reach_nets j fits has step t [] all less within = tt
reach_nets j fits has step t (Net net ∷ pins) all less within =
    (record { within = within.0; has_it = all (at j t net) (below_step j.width t step (position_of j.order net) less (position_in j fits net within.0)) }, reach_nets j fits has step t pins all less within.1)
reach_nets j fits has step t (Bit bit ∷ pins) all less within = reach_nets j fits has step t pins all less within
reach_nets j fits has step t (Dead ∷ pins) all less within = reach_nets j fits has step t pins all less within

pub step_small : (w t step : ℕ) → t < step → t * w + w ≤ step * w
step_small w t step less = let more : suc t * w ≤ step * w = mul-le-mul_right w (omega arith) in omega (arith, more)

pub early : (pins : List Pin) (n : ℕ) → length pins ≤ n → take (length pins) (replicate n X) ≡ early_pins pins
early [] n few = refl
early (pin ∷ pins) zero few = absurd (omega arith)
early (pin ∷ pins) (suc n) few = ap (λ values. X ∷ values) (early pins n (omega arith))

-- A step of a job has room for all nets.
pub step_room : (j : Job) → Fits j → (place : ℕ) (spot : Spot) → IsSpot j place spot → spot.step * j.width + j.width ≤ 2 ^ 40
step_room j fits place spot is =
    let room = step_small j.width spot.step (j.moments * j.rounds) is.step_within in
    let all = fits.few_places in
    omega (arith, room, all)

-- A net at the step before a later one has a value where all places before have one.
pub reach_one : (j : Job) → Fits j → (has : ℕ → Type 0) (place : ℕ) (spot : Spot) → IsSpot j place spot → ((k : ℕ) → k < place → has k) → 0 < spot.step → Reach j has (spot.step - 1) spot.net
reach_one j fits has place spot is all later = record {
  within = is.net_within;
  has_it = all (at j (spot.step - 1) spot.net) (let low = below_step j.width (spot.step - 1) spot.step (position_of j.order spot.net) (omega arith) (position_in j fits spot.net is.net_within) in let whole = is.place_is in omega (arith, low, whole));
}

-- At a later round there is a step before.
pub later_in_moment : (step rounds : ℕ) → (step % rounds == 0) ≡ false → 0 < step
later_in_moment step rounds later = let no : (step == 0) ≡ false = later_round step rounds later in grind (arith, common_steps)
