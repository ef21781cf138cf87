-- The fillings of sources by number, 256 in a block: lane l of block b has the filling of number
-- 256 b + l.
use Rattle.std.specs.Prelude.{ℕ, ◌+◌, ◌*◌, ◌<◌, List, [], slice_index_or}
use Rattle.decide_nodes.specs.Lanes.{HasLanes}
use Rattle.decide_nodes.specs.Nodes.{number_bits}

-- The lanes of a source in a block.
abbrev pub AreLanesOf : ℕ → ℕ → List ℕ → Type 0
AreLanesOf block source lane_bits = HasLanes lane_bits (λ lane. number_bits (256 * block + lane) source)

-- The lanes of the first n sources, and of the first 16.
abbrev pub IsLaneTableOf : ℕ → List (List ℕ) → ℕ → Type 0
IsLaneTableOf block given n = (source : ℕ) → source < n → AreLanesOf block source (slice_index_or given source [])

abbrev pub IsBlock : ℕ → List (List ℕ) → Type 0
IsBlock block given = IsLaneTableOf block given 16
