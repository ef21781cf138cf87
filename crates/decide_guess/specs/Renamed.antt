-- What is said of nodes of a graph, by their positions in a cone: the list has the position of each node at its number.
use Rattle.std.specs.Prelude.{◌≡◌, ℕ, ◌+◌, ◌<◌, ◌==◌, ◌&&◌, Bool, List, [], ◌∷◌, ◌++◌, Vec, length, map, nat_lt}
use Rattle.std.specs.Prelude.{slice_index, ℤ, pos, neg_ℤ, if◌then◌else◌}
use Rattle.std.specs.declared.alloc.Global.{Global}
use Rattle.std.specs.List.{list_all, list_any}
use Rattle.law_model.specs.Places.{places_where}
use Rattle.decide_nodes.specs.declared.node.Node.{Node}
use Rattle.decide_nodes.specs.Lanes.{in_lane}
use Rattle.decide_nodes.specs.Nodes.{is_source_node, node_at}
use Rattle.decide_justify.specs.declared.node_bit.NodeBit.{NodeBit}

-- Whether a node has a position, and whether one of some nodes has it.
abbrev pub stands_at : List ℕ → ℕ → ℕ → Bool
stands_at positions position node = nat_lt node (length positions) && (slice_index positions node == position)

abbrev pub has_one : List ℕ → List ℕ → ℕ → Bool
has_one positions ones position = list_any (stands_at positions position) ones

-- The positions of the sources of a cone, in order.
abbrev pub is_source_at : List Node → ℕ → Bool
is_source_at nodes position = is_source_node (node_at nodes position)

abbrev pub source_positions : List Node → List ℕ
source_positions nodes = places_where (is_source_at nodes) (length nodes)

-- In each lane the sources, in order, have the bits of their positions.
abbrev pub GivesSources : List Node → (ℕ → Bool) → List (List ℕ) → Type 0
GivesSources nodes bits given = (lane : ℕ) → lane < 256
    → map (λ lane_bits. in_lane lane_bits lane) given ≡ map bits (source_positions nodes)

-- Whether a node has a position among the variables, which count from 1 on,
abbrev pub has_variable : List ℕ → ℕ → NodeBit → Bool
has_variable positions vars node_bit =
    nat_lt node_bit.node (length positions) && nat_lt (slice_index positions node_bit.node) vars

-- and the literal that it has its bit.
abbrev pub literal_by : List ℕ → NodeBit → ℤ
literal_by positions node_bit = let variable = pos (slice_index positions node_bit.node + 1) in
    if node_bit.bit then variable else neg_ℤ variable

abbrev pub have_variables : List ℕ → ℕ → Vec NodeBit Global → Bool
have_variables positions vars clause = list_all (has_variable positions vars) clause.items

abbrev pub clause_by : List ℕ → Vec NodeBit Global → List ℤ
clause_by positions clause = map (literal_by positions) clause.items

-- The clauses, and after them the empty one.
abbrev pub log_by : List ℕ → List (Vec NodeBit Global) → List (List ℤ)
log_by positions clauses = map (clause_by positions) clauses ++ [] ∷ []
