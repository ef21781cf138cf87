-- Nodes of a graph that are equal, and the worlds at their places.
use Rattle.std.specs.Prelude.{◌≡◌, ℕ, ◌<◌, false, List, Option, None, Some, length, slice_index}
use Rattle.std.specs.List.{list_any}
use Rattle.design_cell.specs.declared.value.Value.{Value}
use Rattle.design_cell.specs.Value.{is_unknown}
use Rattle.design_circuit.specs.declared.place.Place.{Place}
use Rattle.design_circuit.specs.Filling.{IsFilling}
use Rattle.wave_proved.specs.Contents.{Contents, IsWave, job}
use Rattle.decide_nodes.specs.declared.node.Node.{Node}
use Rattle.decide_nodes.specs.declared.node.NodeBody.TheVariants.{Rule}
use Rattle.decide_nodes.specs.Nodes.{node_at}
use Rattle.decide_nodes.specs.Traced.{world_in}
use Rattle.decide_graph.specs.Graph.{AreOrdered, IsGraphOf}

-- Another node is there that reads the same nodes by the same table, in which there is no x.
pub record AreEqual (nodes : List Node) (node other : ℕ) : Type 0 where
  pub within : other < length nodes
  pub arguments : List ℕ
  pub values : List Value
  pub own : (node_at nodes node).body ≡ Rule arguments values
  pub same : (node_at nodes other).body ≡ Rule arguments values
  pub known : list_any is_unknown values ≡ false

-- Nodes of the graph that is kept.
abbrev pub AreEqualIn : Option (List Node) → ℕ → ℕ → Type 0
AreEqualIn None node other = ⊥
AreEqualIn (Some nodes) node other = AreEqual nodes node other

-- In the world of every filling their places have the same bit.
abbrev pub EqualLaw : Type 0
EqualLaw = (c : Contents) (nodes : List Node) (numbers : List ℕ) (node other : ℕ) (filling : List Place) → IsWave c
    → AreOrdered nodes → IsGraphOf c nodes numbers → node < length nodes → AreEqual nodes node other
    → IsFilling (job c) filling
    → world_in c filling (slice_index numbers node) ≡ world_in c filling (slice_index numbers other)
