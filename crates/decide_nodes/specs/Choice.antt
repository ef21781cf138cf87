-- Values of a table that lanes choose.
use Rattle.std.specs.Prelude.{ℕ, ◌+◌, ◌*◌, cond, Bool, List, [], ◌∷◌, slice_index_or}
use Rattle.design_cell.specs.declared.value.Value.{Value}
use Rattle.design_cell.specs.declared.value.Value.TheVariants.{X}
use Rattle.design_circuit.specs.World.{decided}
use Rattle.decide_nodes.specs.Lanes.{in_lane}

-- The number whose bits are those of some lanes in a lane, the lowest first.
abbrev pub number_at : List (List ℕ) → ℕ → ℕ
number_at [] lane = 0
number_at (first ∷ others) lane = cond (in_lane first lane) 1 0 + 2 * number_at others lane

-- The bit of the value of a table at a number, or what a filling gives where that is x.
abbrev pub value_at : List Value → ℕ → Bool → Bool
value_at values number filling = decided (slice_index_or values number X) filling
