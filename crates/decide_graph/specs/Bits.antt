-- The bits of the nodes of a graph under a filling.
use Rattle.std.specs.Prelude.{◌≡◌, ℕ, suc, ◌<◌, Bool, List, length, slice_index}
use Rattle.design_circuit.specs.declared.place.Place.{Place}
use Rattle.design_circuit.specs.Filling.{IsFilling}
use Rattle.design_circuit.specs.World.{bit_at}
use Rattle.decide_nodes.specs.OfWave.{Contents, IsWave, job}
use Rattle.decide_nodes.specs.declared.node.Node.{Node}
use Rattle.decide_nodes.specs.Nodes.{is_listed, node_at, node_bits}
use Rattle.decide_nodes.specs.Traced.{world_in}
use Rattle.decide_graph.specs.Graph.{AreOrdered, IsGraphOf}

-- Whether a filling lists the place of a node.
abbrev pub own_bit : List Node → List Place → ℕ → Bool
own_bit nodes filling node = is_listed filling (node_at nodes node).place

-- The bit of a node where each node has its own bit from a filling.
abbrev pub graph_bit : List Node → List Place → ℕ → Bool
graph_bit nodes filling node = bit_at (node_bits (own_bit nodes filling) nodes (suc node)) node

-- It is the bit of its place in the world of the filling, whichever wave the graph is of.
abbrev pub WorldLaw : Type 0
WorldLaw = (c : Contents) (nodes : List Node) (numbers : List ℕ) (filling : List Place) (node : ℕ) → IsWave c
    → AreOrdered nodes → IsGraphOf c nodes numbers → IsFilling (job c) filling → node < length nodes
    → graph_bit nodes filling node ≡ world_in c filling (slice_index numbers node)
