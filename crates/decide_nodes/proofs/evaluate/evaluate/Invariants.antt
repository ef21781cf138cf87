-- The lanes so far are those of the nodes so far.
use Rattle.decide_nodes.proofs.LaneTables.{EvaluatedSoFar}
use Rattle.decide_nodes.proofs.evaluate.evaluate.Given as goal

abbrev pub invariant-nodes : goal.invariant-nodes
invariant-nodes l = EvaluatedSoFar l.nodes l.given l.lane_table l.sources l.position
