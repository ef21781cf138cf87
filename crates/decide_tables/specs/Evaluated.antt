-- Blocks of nodes that are found, and that are evaluated.
use Rattle.std.specs.Prelude.{◌≡◌, ℕ, ◌+◌, ◌*◌, ◌<◌, List, [], length, slice_index, slice_index_or}
use Rattle.design_circuit.specs.declared.place.Place.{Place}
use Rattle.decide_nodes.specs.declared.node.Node.{Node}
use Rattle.decide_nodes.specs.Lanes.{HasLanes}
use Rattle.decide_nodes.specs.Nodes.{is_listed}
use Rattle.decide_tables.specs.Tables.{HasBlock, HasTable, NodeTable, filling_by}

-- Lanes are a block of one of some tables.
pub record IsFoundBlock (tables : List NodeTable) (node block : ℕ) (lane_bits : List ℕ) : Type 0 where
  pub blocks : List (List ℕ)
  pub has : HasTable tables node blocks
  pub within : block < length blocks
  pub is : lane_bits ≡ slice_index_or blocks block []

-- Those of the first n of some nodes.
abbrev pub AreFoundBlocks : List NodeTable → List ℕ → ℕ → List (List ℕ) → ℕ → Type 0
AreFoundBlocks tables nodes block given n =
    (k : ℕ) → k < n → IsFoundBlock tables (slice_index nodes k) block (slice_index_or given k [])

-- Lane l says whether the filling of the number 256 block + l lists a place.
abbrev pub HasOwnLanes : List Place → Place → ℕ → List ℕ → Type 0
HasOwnLanes list place block own =
    HasLanes own (λ lane. is_listed (filling_by list (256 * block + lane)) place)

-- The first blocks of a node.
abbrev pub AreFirstBlocks : List Node → List Place → ℕ → List (List ℕ) → Type 0
AreFirstBlocks graph list node blocks =
    (block : ℕ) → block < length blocks → HasBlock graph list node block (slice_index_or blocks block [])
