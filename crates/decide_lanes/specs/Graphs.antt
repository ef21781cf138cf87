-- The graph of the nodes.
use Rattle.std.specs.Prelude.{ℕ, ◌<◌, ◌^◌, List, Option, None, Some, length}
use Rattle.design_cell.specs.declared.value.Value.{Value}
use Rattle.design_circuit.specs.declared.place.Place.{Place}
use Rattle.wave_proved.specs.Contents.{Contents}
use Rattle.decide_nodes.specs.declared.node.Node.{Node}
use Rattle.decide_graph.specs.Graph.{AreOrdered, IsConeOfNode, IsGraphOf}
use Rattle.decide_graph.specs.NodeRoots.{AddsNode}
use Rattle.decide_graph.specs.declared.node_root.NodeRoot.{NodeRoot}
use Rattle.decide_lane_nodes.specs.Nodes.{NodeView, numbers_of}

-- A graph is that of the nodes after the first one: node n is its node n - 1.
pub record IsGraphIn (c : Contents) (nodes : List NodeView) (graph : List Node) : Type 0 where
  pub ordered : AreOrdered graph
  pub is_graph : IsGraphOf c graph (numbers_of nodes)

-- The node of a place came into a graph in which there was room.
pub record ComesIn (old : List Node) (place : Place) (roots : List NodeRoot) (values : List Value)
    (new : List Node) : Type 0 where
  pub few : length old < 2 ^ 27
  pub adds : AddsNode old place roots values new

-- Where there is a graph afterwards, there was one, and the node came into it.
abbrev pub GrowsBy : Option (List Node) → Place → List NodeRoot → List Value → Option (List Node) → Type 0
GrowsBy old place roots values None = Unit {0}
GrowsBy None place roots values (Some new) = ⊥
GrowsBy (Some old) place roots values (Some new) = ComesIn old place roots values new

-- There is a graph, and nodes are the cone of the place of one of its nodes.
abbrev pub GivesCone : Option (List Node) → ℕ → List Node → Type 0
GivesCone None node cone = ⊥
GivesCone (Some graph) node cone = IsConeOfNode graph node cone
