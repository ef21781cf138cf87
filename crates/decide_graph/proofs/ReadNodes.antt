-- What nodes read.
use Rattle.std.proofs.Common.{◌≡◌, ℕ, ◌<◌, true, List, length}
use Rattle.std.specs.List.{AllByRecursion}
use Rattle.law_model.proofs.PlacesWhere.{all_among}
use Rattle.decide_nodes.specs.declared.node.Node.{Node}
use Rattle.decide_nodes.specs.declared.node.NodeBody.{NodeBody as Body}
use Rattle.decide_nodes.specs.declared.node.NodeBody.TheVariants.{Carried, Rule}
use Rattle.decide_nodes.specs.Nodes.{StandsAt, node_at}
use Rattle.decide_graph.specs.Graph.{AreOrdered}
use Rattle.decide_graph.specs.Walk.{read_nodes, reads_node}

-- What a node reads stands before it.
pub reads_low : (position : ℕ) (body : Body) → StandsAt position body
    → AllByRecursion (λ argument. argument < position) (read_nodes body)
reads_low position (Carried node inverted) stands = (stands, tt)
reads_low position (Rule arguments values) stands = stands.before

pub reads_before : (nodes : List Node) (node argument : ℕ) → AreOrdered nodes → node < length nodes
    → reads_node nodes node argument ≡ true → argument < node
reads_before nodes node argument kept less at =
    all_among (λ k. k < node) (read_nodes (node_at nodes node).body) argument
    (reads_low node (node_at nodes node).body (kept.each node less)) at
