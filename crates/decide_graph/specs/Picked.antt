-- Nodes by their positions among those that are reached.
use Rattle.std.specs.Prelude.{ℕ, Bool, List, length, map, reverse}
use Rattle.law_model.specs.Places.{places_where}
use Rattle.decide_nodes.specs.declared.node.Node.{Node}
use Rattle.decide_nodes.specs.declared.node.NodeBody.{NodeBody as Body}
use Rattle.decide_nodes.specs.declared.node.NodeBody.TheVariants.{Carried, Rule}
use Rattle.decide_nodes.specs.Nodes.{node_at}
use Rattle.decide_graph.specs.Walk.{is_taken}

-- What a node reads, by positions.
abbrev pub moved_body : (ℕ → ℕ) → Body → Body
moved_body position (Carried node inverted) = Carried (position node) inverted
moved_body position (Rule arguments values) = Rule (map position arguments) values

abbrev pub moved_node : (ℕ → ℕ) → Node → Node
moved_node position node = record { place = node.place; body = moved_body position node.body }

-- How many nodes are reached before one.
abbrev pub before_node : (ℕ → Bool) → ℕ → ℕ
before_node has node = length (places_where has node)

-- The reached ones of the first nodes.
abbrev pub picked_of : List Node → (ℕ → Bool) → ℕ → List Node
picked_of nodes has n =
    map (λ node. moved_node (before_node has) (node_at nodes node)) (places_where has n)

-- Nodes that are taken, the greatest first, from the last one on.
abbrev pub picked_by : List Node → List ℕ → List Node
picked_by nodes taken =
    map (λ node. moved_node (before_node (is_taken taken)) (node_at nodes node)) (reverse taken)
