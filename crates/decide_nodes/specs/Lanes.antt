-- The bits of 256 lanes, which hold the bits of 256 fillings at once, in four parts of 64.
use Rattle.std.specs.Prelude.{◌≡◌, ℕ, ◌-◌, ◌/◌, ◌%◌, ◌^◌, ◌<◌, ◌==◌, Bool, false, true, List, [], map, slice_index}
use Rattle.std.specs.Prelude.{slice_index_or, take, if◌then◌else◌}
use Rattle.std.specs.Int.{bit_at}
use Rattle.decide_nodes.specs.declared.node.Node.{Node}
use Rattle.decide_nodes.specs.Nodes.{by_sources, node_bits, root_bit}

-- The bit of lanes in a lane.
abbrev pub in_lane : List ℕ → ℕ → Bool
in_lane lane_bits lane = bit_at (slice_index lane_bits (lane / 64)) (lane % 64) == 1

-- Lanes have, in each lane, the bit that a function of the lane gives.
abbrev pub HasLanes : List ℕ → (ℕ → Bool) → Type 0
HasLanes lane_bits bits = (lane : ℕ) → lane < 256 → in_lane lane_bits lane ≡ bits lane

-- It has no 1, or it has one in a lane.
abbrev pub HasNone : List ℕ → Type 0
HasNone lane_bits = HasLanes lane_bits (λ lane. false)

abbrev pub IsOne : List ℕ → ℕ → Type 0
IsOne lane_bits lane = (lane < 256) × (in_lane lane_bits lane ≡ true)

-- A part with 1 in each bit, or 0 in each.
abbrev pub equal_bits : Bool → ℕ
equal_bits is_one = if is_one then 2 ^ 64 - 1 else 0

-- The bits of some lanes in a lane: of nodes by position, or of sources in place order.
abbrev pub lane_of : List (List ℕ) → ℕ → ℕ → Bool
lane_of lane_table lane position = in_lane (slice_index_or lane_table position []) lane

-- The bit of the root where each source has the bit of its lanes in the lane.
abbrev pub root_in_lane : List Node → List (List ℕ) → ℕ → Bool
root_in_lane nodes given lane = root_bit (by_sources nodes (lane_of given lane)) nodes

-- The first n lanes are those of the first n nodes.
abbrev pub IsLaneTable : List Node → List (List ℕ) → List (List ℕ) → ℕ → Type 0
IsLaneTable nodes given lane_table n =
    (lane : ℕ) → lane < 256
    → map (λ lane_bits. in_lane lane_bits lane) (take n lane_table)
    ≡ node_bits (by_sources nodes (lane_of given lane)) nodes n

-- What callers see of room for lanes: for how many nodes it is.
pub record ConeLanesView : Type 0 where
  pub nodes : ℕ
