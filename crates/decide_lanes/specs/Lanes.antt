-- What lanes have of the places of a wave.
use Rattle.std.specs.Prelude.{◌≡◌, ℕ, ◌+◌, ◌<◌, ◌≤◌, List, IfSome, IsSome, Option, None, Some, length}
use Rattle.std.specs.List.{AllByRecursion}
use Rattle.design_circuit.specs.Job.{places_of}
use Rattle.design_circuit.specs.Waveform.{certain}
use Rattle.wave_proved.specs.Contents.{Contents, job}
use Rattle.decide_nodes.specs.declared.node.Node.{Node}
use Rattle.decide_lane_nodes.specs.Literal.{AreLiteralsFrom, IsNodeOf, LiteralView, ReachesBack}
use Rattle.decide_lane_nodes.specs.Nodes.{Extends, NodeView, node_at, numbers_of, zero_node}
use Rattle.decide_lanes.specs.Graphs.{IsGraphIn}
use Rattle.decide_lanes.specs.Shared.{IsSharedIn, SharedView}

-- The nodes, the literals of the last places that are covered, from a first one on, the node of the place after them,
-- if it was looked at, the graph of the nodes, if it is kept, the tables that its nodes share, and how wide a row of
-- literals is.
pub record LanesView : Type 0 where
  pub nodes : List NodeView
  pub first : ℕ
  pub literals : List LiteralView
  pub next : Option ℕ
  pub graph : Option (List Node)
  pub shared : SharedView
  pub width : ℕ

-- How many places are covered: these are the first ones of the wave.
abbrev pub count_of : LanesView → ℕ
count_of lanes = lanes.first + length lanes.literals

-- How many places are covered or looked at.
abbrev pub looked : Option ℕ → ℕ
looked None = 0
looked (Some node) = 1

abbrev pub looked_count : LanesView → ℕ
looked_count lanes = count_of lanes + looked lanes.next

-- A node is that of the place after those that are covered, which is one of the job.
pub record IsNextNode (c : Contents) (nodes : List NodeView) (place node : ℕ) : Type 0 where
  pub within : place < places_of (job c)
  pub holds : IsNodeOf (job c) (certain c.written) nodes node place

-- All literals are right of a wave, whose places they cover, and so are the node of the place after these, and the
-- graph, if it is kept, with the tables that its nodes share; what later places may read is covered, each node after
-- the first is of a place that is covered or looked at, and the rows are those of the job.
pub record IsRightOf (c : Contents) (lanes : LanesView) : Type 0 where
  pub some : 0 < length lanes.nodes
  pub zero : node_at lanes.nodes 0 ≡ zero_node
  pub written : count_of lanes ≤ length c.written
  pub each : AreLiteralsFrom (job c) (certain c.written) lanes.nodes lanes.first lanes.literals
  pub far : ReachesBack (job c) lanes.first (count_of lanes)
  pub next : IfSome lanes.next (IsNextNode c lanes.nodes (count_of lanes))
  pub graph : IfSome lanes.graph (IsGraphIn c lanes.nodes)
  pub shared : IsSharedIn c lanes.graph lanes.shared
  pub below : AllByRecursion (λ k. k < looked_count lanes) (numbers_of lanes.nodes)
  pub sized : 0 < count_of lanes → lanes.width ≡ (job c).width

-- They are right of every wave where no place is covered.
abbrev pub IsRightOfAny : LanesView → Type 0
IsRightOfAny lanes = (c : Contents) → IsRightOf c lanes

-- Nodes came in, and the literals stayed.
pub record Keeps (old new : LanesView) : Type 0 where
  pub nodes : Extends old.nodes new.nodes
  pub first : new.first ≡ old.first
  pub literals : new.literals ≡ old.literals
  pub width : new.width ≡ old.width

-- Every written place is covered, and the next one was looked at.
pub record IsLookedAt (c : Contents) (lanes : LanesView) : Type 0 where
  pub all : count_of lanes ≡ length c.written
  pub next : IsSome lanes.next
