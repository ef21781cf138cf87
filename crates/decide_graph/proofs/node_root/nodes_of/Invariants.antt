-- The nodes so far.
use Rattle.std.proofs.Common.{◌≡◌, map, take}
use Rattle.decide_graph.specs.NodeRoots.{node_in}
use Rattle.decide_graph.proofs.node_root.nodes_of.Given as goal

abbrev pub invariant-roots : goal.invariant-roots
invariant-roots l = l.nodes ≡ map node_in (take l.root-index l.roots)
