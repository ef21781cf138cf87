-- Nodes by position, and their bits.
use Rattle.std.specs.Prelude.{◌≡◌, ℕ, zero, suc, ◌+◌, ◌-◌, ◌<◌, ◌≤◌, ◌^◌, ◌==◌, ◌&&◌, Bool, false, List, [], ◌∷◌, ◌++◌}
use Rattle.std.specs.Prelude.{filter, length, map, slice_index_or, take, if◌then◌else◌}
use Rattle.std.specs.Int as int
use Rattle.std.specs.List.{AllByRecursion, list_any}
use Rattle.design_cell.specs.declared.value.Value.{Value}
use Rattle.design_cell.specs.declared.value.Value.TheVariants.{X}
use Rattle.design_cell.specs.Value.{is_unknown}
use Rattle.design_circuit.specs.declared.place.Place.{Place}
use Rattle.design_circuit.specs.World.{bit_at, decided}
use Rattle.law_model.specs.Mask.{mask_of}
use Rattle.law_model.specs.Node.{NodeBody, carried, ruled, node_bit}
use Rattle.decide_nodes.specs.declared.node.Node.{Node}
use Rattle.decide_nodes.specs.declared.node.NodeBody.{NodeBody as Body}
use Rattle.decide_nodes.specs.declared.node.NodeBody.TheVariants.{Carried, Rule}

-- The node at a position. Where there is none, any.
abbrev pub no_node : Node
no_node = record { place = record { step = 0; net = 0 }; body = Carried 0 false }

abbrev pub node_at : List Node → ℕ → Node
node_at nodes position = slice_index_or nodes position no_node

-- A body, as the definitions of cones have it.
abbrev pub body_of : Body → NodeBody
body_of (Carried node inverted) = carried node inverted
body_of (Rule arguments values) = ruled arguments values

abbrev pub body_at : List Node → ℕ → NodeBody
body_at nodes position = body_of (node_at nodes position).body

-- At most 13 arguments at positions below a position, and a value for each of their bits.
pub record IsNodeTable (position : ℕ) (arguments : List ℕ) (values : List Value) : Type 0 where
  pub few : length arguments ≤ 13
  pub before : AllByRecursion (λ argument. argument < position) arguments
  pub long : length values ≡ 2 ^ length arguments

-- A body reads nodes before its position alone.
abbrev pub StandsAt : ℕ → Body → Type 0
StandsAt position (Carried node inverted) = node < position
StandsAt position (Rule arguments values) = IsNodeTable position arguments values

-- Some nodes, each of which reads those before it alone.
pub record AreNodes (nodes : List Node) : Type 0 where
  pub some : 0 < length nodes
  pub few : length nodes ≤ 2 ^ 27
  pub each : (position : ℕ) → position < length nodes → StandsAt position (node_at nodes position).body

-- The bit that a table gives: the value whose number the arguments have, or the filling's bit where that is x.
abbrev pub table_bit : List ℕ → List Value → (ℕ → Bool) → Bool → Bool
table_bit arguments values bits filling = decided (slice_index_or values (mask_of arguments bits) X) filling

-- A source is a node whose table has x.
abbrev pub is_source_body : Body → Bool
is_source_body (Carried node inverted) = false
is_source_body (Rule arguments values) = list_any is_unknown values

abbrev pub is_source_node : Node → Bool
is_source_node node = is_source_body node.body

-- The sources, in place order, and how many stand before a position.
abbrev pub place_of_node : Node → Place
place_of_node node = node.place

abbrev pub sources_of : List Node → List Place
sources_of nodes = map place_of_node (filter is_source_node nodes)

abbrev pub sources_before : List Node → ℕ → ℕ
sources_before nodes position = length (filter is_source_node (take position nodes))

-- The bits of the first n nodes: each has what its body makes of the bits before it, and where that is x what it is
-- given.
unfoldable pub node_bits : (ℕ → Bool) → List Node → ℕ → List Bool
node_bits given nodes zero = []
node_bits given nodes (suc n) =
    node_bits given nodes n ++ node_bit (bit_at (node_bits given nodes n)) (given n) (body_at nodes n) ∷ []

-- The bit of the root, which is the last node.
abbrev pub root_bit : (ℕ → Bool) → List Node → Bool
root_bit given nodes = bit_at (node_bits given nodes (length nodes)) (length nodes - 1)

-- Each source is given its bit, the sources being counted from 0 in place order.
abbrev pub by_sources : List Node → (ℕ → Bool) → ℕ → Bool
by_sources nodes bits position = bits (sources_before nodes position)

-- The places in a list that have 1, the bits being counted from 0 along the list.
abbrev pub chosen : List Place → (ℕ → Bool) → List Place
chosen [] bits = []
chosen (first ∷ places) bits =
    if bits 0 then first ∷ chosen places (λ k. bits (k + 1)) else chosen places (λ k. bits (k + 1))

-- Nothing is chosen.
abbrev pub nothing : ℕ → Bool
nothing position = false

-- A source by its number. Past the last, any place.
abbrev pub source_at : List Node → ℕ → Place
source_at nodes source = slice_index_or (sources_of nodes) source no_node.place

-- Whether a filling lists a place.
abbrev pub is_same_place : Place → Place → Bool
is_same_place place other = (place.step == other.step) && (place.net == other.net)

abbrev pub is_listed : List Place → Place → Bool
is_listed filling place = list_any (is_same_place place) filling

-- The bits that a number gives the sources: bit i is that of source i.
abbrev pub number_bits : ℕ → ℕ → Bool
number_bits number source = int.bit_at number source == 1

-- What callers see of a cone.
pub record ConeView : Type 0 where
  pub nodes : List Node

-- What is kept beside the nodes: which of them are sources, the sources, and the bit of the root where no source is
-- given 1.
pub record IsSummary (nodes : List Node) (births : List Bool) (sources : List Place) (base : Bool) : Type 0 where
  pub are_nodes : AreNodes nodes
  pub are_births : births ≡ map is_source_node nodes
  pub are_sources : sources ≡ sources_of nodes
  pub is_base : base ≡ root_bit nothing nodes
