-- Literals: a node, as it is or inverted, which stands for a place.
use Rattle.std.specs.Prelude.{◌≡◌, ℕ, ◌+◌, ◌-◌, ◌*◌, ◌/◌, ◌%◌, ◌<◌, ◌≤◌, ◌==◌, Bool, true, false, List, length, Option}
use Rattle.std.specs.Prelude.{None, Some, slice_index_or, if◌then◌else◌}
use Rattle.design_cell.specs.declared.value.Value.{Value}
use Rattle.design_cell.specs.Value.{is_unknown}
use Rattle.design_circuit.specs.Job.{Job}
use Rattle.law_model.specs.Class.{flipped}
use Rattle.law_model.specs.Cone.{sources}
use Rattle.law_model.specs.Root.{root_of}
use Rattle.decide_nodes.specs.Lanes.{in_lane}
use Rattle.decide_lane_nodes.specs.Given.{lane_bit}
use Rattle.decide_lane_nodes.specs.Nodes.{NodeView, node_at}

-- A node by number, as it is or inverted.
pub record LiteralView : Type 0 where
  pub node : ℕ
  pub inverted : Bool

-- Its code, and back.
abbrev pub unpacked : ℕ → LiteralView
unpacked code = record { node = code / 2; inverted = code % 2 == 1 }

abbrev pub packed : LiteralView → ℕ
packed literal = 2 * literal.node + (if literal.inverted then 1 else 0)

abbrev pub literal_of : ℕ → Bool → LiteralView
literal_of node inverted = record { node = node; inverted = inverted }

abbrev pub plain : ℕ → LiteralView
plain node = literal_of node false

abbrev pub no_literal : LiteralView
no_literal = plain 0

abbrev pub turned : Bool → LiteralView → LiteralView
turned inverted literal = literal_of literal.node (flipped inverted literal.inverted)

-- The literal of a bit: the first node, as it is or inverted.
abbrev pub constant : Bool → LiteralView
constant bit = record { node = 0; inverted = bit }

-- The literal of a place among those of the places from a first one on.
abbrev pub literal_in : ℕ → List LiteralView → ℕ → LiteralView
literal_in first literals place = slice_index_or literals (place - first) no_literal

-- The bit that a literal has in a lane.
abbrev pub literal_bit : List NodeView → LiteralView → ℕ → Bool
literal_bit nodes literal lane = flipped literal.inverted (in_lane (node_at nodes literal.node).lane_bits lane)

-- In each lane it has the bit that the place has in the world of the lane's filling.
abbrev pub HasBits : Job → (ℕ → Value) → List NodeView → LiteralView → ℕ → Type 0
HasBits j certain nodes literal place =
    (lane : ℕ) → lane < 256 → literal_bit nodes literal lane ≡ lane_bit j certain lane place

-- Where sources are kept, they are those of the place.
abbrev pub AreSources : Job → (ℕ → Value) → ℕ → Option (List ℕ) → Type 0
AreSources j certain place None = Unit {0}
AreSources j certain place (Some list) = list ≡ sources j certain place

-- Its node is that of the root of the place, and it is inverted where the way there is.
abbrev pub IsRoot : Job → (ℕ → Value) → List NodeView → LiteralView → ℕ → Type 0
IsRoot j certain nodes literal place =
    root_of j certain place ≡ record { place = (node_at nodes literal.node).place; inverted = literal.inverted }

-- A literal is that of a place: it has its bits in the lanes, and where the place is uncertain, its root and its
-- sources; the first node then isn't its one.
pub record IsLiteralOf (j : Job) (certain : ℕ → Value) (nodes : List NodeView) (literal : LiteralView)
    (place : ℕ) : Type 0 where
  pub within : literal.node < length nodes
  pub bits : HasBits j certain nodes literal place
  pub some : is_unknown (certain place) ≡ true → 0 < literal.node
  pub root : is_unknown (certain place) ≡ true → IsRoot j certain nodes literal place
  pub sources : is_unknown (certain place) ≡ true → AreSources j certain place (node_at nodes literal.node).sources

-- A node, which isn't the first one, is that of a place that isn't carried.
pub record IsNodeOf (j : Job) (certain : ℕ → Value) (nodes : List NodeView) (node place : ℕ) : Type 0 where
  pub some : 0 < node
  pub within : node < length nodes
  pub own : (node_at nodes node).place ≡ place
  pub bits : HasBits j certain nodes (plain node) place
  pub root : IsRoot j certain nodes (plain node) place
  pub sources : AreSources j certain place (node_at nodes node).sources

-- Literals are those of the places from a first one on.
abbrev pub AreLiteralsFrom : Job → (ℕ → Value) → List NodeView → ℕ → List LiteralView → Type 0
AreLiteralsFrom j certain nodes first literals =
    (place : ℕ) → first ≤ place → place < first + length literals
    → IsLiteralOf j certain nodes (literal_in first literals place) place

-- The first one stands before all that a place at a number may read: these are within three steps before it.
abbrev pub ReachesBack : Job → ℕ → ℕ → Type 0
ReachesBack j first place = (k : ℕ) → place < k + 3 * j.width → first ≤ k
