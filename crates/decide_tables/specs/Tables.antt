-- The tables of the nodes of a graph over a list of places.
use Rattle.std.specs.Prelude.{◌≡◌, ℕ, ◌+◌, ◌*◌, ◌<◌, ◌++◌, List, [], length, slice_index_or}
use Rattle.std.specs.List.{AllByRecursion}
use Rattle.design_circuit.specs.declared.place.Place.{Place}
use Rattle.decide_nodes.specs.declared.node.Node.{Node}
use Rattle.decide_nodes.specs.Lanes.{HasLanes}
use Rattle.decide_nodes.specs.Nodes.{chosen, number_bits}
use Rattle.decide_graph.specs.Bits.{graph_bit}

-- The filling of a number lists the places of a list at whose positions the number has a 1.
abbrev pub filling_by : List Place → ℕ → List Place
filling_by list number = chosen list (number_bits number)

-- Lanes are those of a node in a block: lane l has the node's bit under the filling of the number 256 block + l.
abbrev pub HasBlock : List Node → List Place → ℕ → ℕ → List ℕ → Type 0
HasBlock graph list node block lane_bits =
    HasLanes lane_bits (λ lane. graph_bit graph (filling_by list (256 * block + lane)) node)

-- The lanes of a node, block by block.
pub record NodeTable : Type 0 where
  pub node : ℕ
  pub blocks : List (List ℕ)

-- They are right of a graph and a list, as far as they go.
pub record IsTableOf (graph : List Node) (list : List Place) (table : NodeTable) : Type 0 where
  pub within : table.node < length graph
  pub each : (block : ℕ) → block < length table.blocks
      → HasBlock graph list table.node block (slice_index_or table.blocks block [])

abbrev pub AreAllOf : List Node → List Place → List NodeTable → Type 0
AreAllOf graph list tables = AllByRecursion (IsTableOf graph list) tables

-- One of some tables is that of a node.
abbrev pub no_table : NodeTable
no_table = record { node = 0; blocks = [] }

pub record HasTable (tables : List NodeTable) (node : ℕ) (blocks : List (List ℕ)) : Type 0 where
  pub at : ℕ
  pub within : at < length tables
  pub is : slice_index_or tables at no_table ≡ record { node = node; blocks = blocks }

-- What callers see: the list, the tables that were used since some question, and those that weren't.
pub record TablesView : Type 0 where
  pub list : List Place
  pub young : List NodeTable
  pub aged : List NodeTable

-- All of them are right of a graph.
pub record AreTablesOf (graph : List Node) (tables : TablesView) : Type 0 where
  pub young : AreAllOf graph tables.list tables.young
  pub aged : AreAllOf graph tables.list tables.aged

-- They are right of every graph where there are none.
abbrev pub AreTablesOfAny : TablesView → Type 0
AreTablesOfAny tables = (graph : List Node) → AreTablesOf graph tables

-- They stay right where nodes come into the graph.
abbrev pub StayLaw : Type 0
StayLaw = (graph more : List Node) (tables : TablesView) → AreTablesOf graph tables → AreTablesOf (graph ++ more) tables

-- What was right of a graph stays right of it.
pub record KeepsRight (old new : TablesView) : Type 0 where
  pub list : new.list ≡ old.list
  pub right : (graph : List Node) → AreTablesOf graph old → AreTablesOf graph new
