-- The nodes that were taken out are picked.
use Rattle.std.proofs.Common.{length}
use Rattle.decide_graph.proofs.PickedNodes.{ArePicked}
use Rattle.decide_graph.proofs.picked.picked_nodes.Given as goal

abbrev pub invariant-rest : goal.invariant-rest
invariant-rest l = ArePicked l.nodes l.fn.taken.items l.rest.items l.positions.items l.picked.items

abbrev pub decreases-rest : goal.decreases-rest
decreases-rest l = length l.rest.items
