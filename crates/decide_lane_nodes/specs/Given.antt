-- The fillings of the lanes: fixed functions of a place and a lane.
use Rattle.std.specs.Prelude.{ℕ, ◌+◌, ◌*◌, ◌/◌, ◌%◌, ◌^◌, Bool, List, [], ◌∷◌, bit_and, bit_or, bit_xor}
use Rattle.design_cell.specs.declared.value.Value.{Value}
use Rattle.design_circuit.specs.declared.place.Place.{Place}
use Rattle.design_circuit.specs.Fits.{place_at}
use Rattle.design_circuit.specs.Job.{Job}
use Rattle.design_circuit.specs.World.{world_bit}
use Rattle.decide_nodes.specs.Lanes.{in_lane}

-- A number that stands for a place.
abbrev pub number_for : Place → ℕ
number_for place = place.step * 1048576 + place.net + 1

-- The product with a fixed number, modulo 2^64, its halves folded upon each other.
abbrev pub product_of : ℕ → ℕ
product_of number = (number * 6364136223846793005) % 2 ^ 64

unfoldable pub folded : ℕ → ℕ
folded number = bit_xor (product_of number) (product_of number / 2 ^ 32)

-- A number mixed well (the finisher of splitmix64).
abbrev pub shifted_in : ℕ → ℕ → ℕ
shifted_in number shift = bit_xor number (number / 2 ^ shift)

unfoldable pub mixed : ℕ → ℕ
mixed number =
    shifted_in
    ((shifted_in ((shifted_in ((number + 11400714819323198485) % 2 ^ 64) 30 * 13787848793156543929) % 2 ^ 64) 27
    * 10723151780598845931) % 2 ^ 64) 31

-- The bits of a place in the fillings of all lanes, in four parts of 64: in the first part about half of them are 1, in
-- the second an eighth, in the third seven eighths, and in the last a quarter. There the first lane has 0 everywhere.
unfoldable pub given_by : ℕ → ℕ → ℕ → ℕ → List ℕ
given_by first second third fourth =
    first ∷ bit_and (bit_and second third) fourth ∷ bit_or (bit_or second third) fourth
    ∷ bit_and (bit_and second third) 18446744073709551614 ∷ []

abbrev pub given_from : ℕ → List ℕ
given_from first = given_by first (mixed first) (mixed (mixed first)) (mixed (mixed (mixed first)))

abbrev pub given_lanes : Place → List ℕ
given_lanes place = given_from (folded (number_for place))

-- The lane of the empty filling.
abbrev pub empty_lane : ℕ
empty_lane = 192

-- The bit of the place of a number in the filling of a lane, and in the world of that filling.
abbrev pub lane_given : Job → ℕ → ℕ → Bool
lane_given j lane place = in_lane (given_lanes (place_at j place)) lane

abbrev pub lane_bit : Job → (ℕ → Value) → ℕ → ℕ → Bool
lane_bit j certain lane place = world_bit j certain (lane_given j lane) place
