-- The nodes are taken downwards from the first.
use Rattle.std.proofs.Common.{◌+◌, ◌-◌, length}
use Rattle.decide_graph.proofs.TakenNodes.{IsDescent}
use Rattle.decide_graph.proofs.walk.reached_nodes.Given as goal

abbrev pub invariant-nodes : goal.invariant-nodes
invariant-nodes l = IsDescent l.nodes l.top l.taken.items l.reached

abbrev pub decreases-nodes : goal.decreases-nodes
decreases-nodes l = l.top + 1 - length l.taken.items
