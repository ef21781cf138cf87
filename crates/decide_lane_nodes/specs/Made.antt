-- Nodes that are to come in.
use Rattle.std.specs.Prelude.{◌≡◌, ℕ, ◌<◌, ◌≤◌, false, List, IfSome, Option, None, Some, Vec, length}
use Rattle.std.specs.declared.alloc.Global.{Global}
use Rattle.design_cell.specs.declared.value.Value.{Value}
use Rattle.design_circuit.specs.Waveform.{certain}
use Rattle.law_model.specs.Cone.{sources}
use Rattle.law_model.specs.Root.{root_of}
use Rattle.wave_proved.specs.Contents.{Contents, job}
use Rattle.decide_nodes.specs.Lanes.{HasLanes}
use Rattle.decide_graph.specs.NodeRoots.{IsRooted}
use Rattle.decide_graph.specs.declared.node_root.NodeRoot.{NodeRoot}
use Rattle.decide_lane_nodes.specs.InWave.{bit_in_lane}
use Rattle.decide_lane_nodes.specs.Nodes.{NodeView, node_at, numbers_of, with_node}
use Rattle.decide_lane_nodes.specs.declared.literal.Covered.{Covered}
use Rattle.decide_lane_nodes.specs.declared.node.Made.{Made}

-- Places are the sources of a place.
abbrev pub AreSourcesIn : Contents → ℕ → List ℕ → Type 0
AreSourcesIn c place list = list ≡ sources (job c) (certain c.written) place

-- A node has the sources of a place.
abbrev pub HasSourcesIn : Contents → List NodeView → ℕ → ℕ → Type 0
HasSourcesIn c nodes place node = (node < length nodes)
    × ((node_at nodes node).sources ≡ Some (sources (job c) (certain c.written) place))

-- A place is its own root.
abbrev pub IsOwnRoot : Contents → ℕ → ℕ → Type 0
IsOwnRoot c place root = root_of (job c) (certain c.written) place ≡ record { place = root; inverted = false }

-- Roots are those of what a place rests on, by their nodes in the graph, and a table is over these.
pub record AreRootsIn (c : Contents) (nodes : List NodeView) (place : ℕ) (roots : List NodeRoot)
    (values : List Value) : Type 0 where
  pub few : length roots ≤ 13
  pub rooted : IsRooted c (numbers_of nodes) place roots values

-- What is made is right of a place.
pub record IsMadeNode (c : Contents) (covered : Covered) (place : ℕ) (made : Made) : Type 0 where
  pub own : made.place ≡ place
  pub root : IsOwnRoot c place made.place
  pub bits : HasLanes made.lane_bits (bit_in_lane c place)
  pub sources : IfSome made.sources (λ list. AreSourcesIn c place list.items)
  pub sharing : IfSome made.sharing (HasSourcesIn c covered.nodes.now place)
  pub roots : AreRootsIn c covered.nodes.now place made.roots.items made.values

-- The nodes with it.
abbrev pub listed_in : Option (Vec ℕ Global) → Option (List ℕ)
listed_in None = None
listed_in (Some list) = Some list.items

abbrev pub sources_by : List NodeView → Option ℕ → Option (Vec ℕ Global) → Option (List ℕ)
sources_by nodes None found = listed_in found
sources_by nodes (Some other) found = (node_at nodes other).sources

abbrev pub with_made : List NodeView → Made → List NodeView
with_made nodes made = with_node nodes made.place made.lane_bits (sources_by nodes made.sharing made.sources)
