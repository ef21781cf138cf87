-- Tables that all nodes share, over a list of sources by number.
use Rattle.std.specs.Prelude.{◌≡◌, ℕ, ◌<◌, not, true, List, [], Option, IfSome, length, map, slice_index}
use Rattle.std.specs.List.{AllByRecursion}
use Rattle.std.specs.List.Sorted.{IsStrictlyIncreasing}
use Rattle.design_circuit.specs.Filling.{IsFilling}
use Rattle.design_circuit.specs.Fits.{place_at}
use Rattle.design_circuit.specs.Job.{places_of}
use Rattle.law_model.specs.Places.{among}
use Rattle.wave_proved.specs.Contents.{Contents, job, next_number}
use Rattle.decide_nodes.specs.declared.node.Node.{Node}
use Rattle.decide_graph.specs.Graph.{AreOrdered, IsGraphOf}
use Rattle.decide_tables.specs.Tables.{AreTablesOf, TablesView}
use Rattle.decide_tables.specs.declared.other.Other.{Other}
use Rattle.decide_lanes.specs.Pairs.{bit_under}

-- The list by the numbers of its places, and the tables over it.
pub record SharedView : Type 0 where
  pub numbers : List ℕ
  pub tables : TablesView

-- Numbers are those of places of a job, and ascend.
pub record AreListable (c : Contents) (numbers : List ℕ) : Type 0 where
  pub rises : IsStrictlyIncreasing numbers
  pub within : AllByRecursion (λ k. k < places_of (job c)) numbers

-- The list has the places of such numbers.
pub record IsListIn (c : Contents) (shared : SharedView) : Type 0 where
  pub numbers : AreListable c shared.numbers
  pub places : shared.tables.list ≡ map (place_at (job c)) shared.numbers

-- And the tables are right of the graph, if it is kept.
pub record IsSharedIn (c : Contents) (graph : Option (List Node)) (shared : SharedView) : Type 0 where
  pub list : IsListIn c shared
  pub tables : IfSome graph (λ nodes. AreTablesOf nodes shared.tables)

-- They are right of every graph where there are none, and of every wave where there is no list.
abbrev pub IsSharedOf : Contents → SharedView → Type 0
IsSharedOf c shared = (graph : Option (List Node)) → IsSharedIn c graph shared

abbrev pub IsSharedOfAny : SharedView → Type 0
IsSharedOfAny shared = (c : Contents) → IsSharedOf c shared

-- What was right stays right.
abbrev pub KeepsShared : Contents → SharedView → SharedView → Type 0
KeepsShared c old new = (graph : Option (List Node)) → IsSharedIn c graph old → IsSharedIn c graph new

-- It has some sources.
abbrev pub ListsAll : List ℕ → SharedView → Type 0
ListsAll sources shared = (k : ℕ) → among sources k ≡ true → among shared.numbers k ≡ true

-- The next place has a node of the graph.
pub record IsNextIn (c : Contents) (node : ℕ) (nodes : List Node) : Type 0 where
  pub ordered : AreOrdered nodes
  pub numbers : List ℕ
  pub is_graph : IsGraphOf c nodes numbers
  pub within : node < length nodes
  pub is : slice_index numbers node ≡ next_number c

-- Another filling than the empty one gives the next place another bit.
pub record IsOtherNext (c : Contents) (other : Other) : Type 0 where
  pub filled : IsFilling (job c) other.filling
  pub empty : other.empty ≡ bit_under c []
  pub differs : bit_under c other.filling ≡ not other.empty
