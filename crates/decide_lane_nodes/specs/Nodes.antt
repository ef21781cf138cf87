-- The nodes of places that aren't carried.
use Rattle.std.specs.Prelude.{◌≡◌, ℕ, ◌<◌, ◌≤◌, List, [], ◌∷◌, ◌++◌, Option, None, Some, IfSome, drop, length, map}
use Rattle.std.specs.Prelude.{slice_index_or}
use Rattle.std.specs.List.{AllByRecursion}
use Rattle.decide_lane_nodes.specs.declared.nodes.Node.{Node}

-- The place of a node, its bits in the lanes, and its sources by number, where they are kept.
pub record NodeView : Type 0 where
  pub place : ℕ
  pub lane_bits : List ℕ
  pub sources : Option (List ℕ)

abbrev pub zeros : List ℕ
zeros = 0 ∷ 0 ∷ 0 ∷ 0 ∷ []

-- The first node has 0 in each lane. So a constant is this node, as it is or inverted.
abbrev pub zero_node : NodeView
zero_node = record { place = 0; lane_bits = zeros; sources = None }

abbrev pub node_at : List NodeView → ℕ → NodeView
node_at nodes node = slice_index_or nodes node zero_node

-- The places of the nodes after the first one, by number.
abbrev pub place_of_node : NodeView → ℕ
place_of_node node = node.place

abbrev pub numbers_of : List NodeView → List ℕ
numbers_of nodes = map place_of_node (drop 1 nodes)

-- One node more.
abbrev pub with_node : List NodeView → ℕ → List ℕ → Option (List ℕ) → List NodeView
with_node nodes place lane_bits sources =
    nodes ++ record { place = place; lane_bits = lane_bits; sources = sources } ∷ []

-- More nodes, and those that were.
pub record Extends (old new : List NodeView) : Type 0 where
  pub more : length old ≤ length new
  pub same : (node : ℕ) → node < length old → node_at new node ≡ node_at old node

-- A node as it is kept: its sources are one of some lists.
abbrev pub list_in : List (List ℕ) → Option ℕ → Option (List ℕ)
list_in lists None = None
list_in lists (Some list) = Some (slice_index_or lists list [])

abbrev pub seen_node : List (List ℕ) → Node → NodeView
seen_node lists node = record { place = node.place; lane_bits = node.lane_bits; sources = list_in lists node.list }

abbrev pub ListWithin : List (List ℕ) → Node → Type 0
ListWithin lists node = IfSome node.list (λ list. list < length lists)

abbrev pub AreKept : List (List ℕ) → List Node → Type 0
AreKept lists nodes = AllByRecursion (ListWithin lists) nodes
