-- The lanes that are left are those whose low bits are the number's.
use Rattle.decide_nodes.proofs.LaneTables.{AgreesSoFar}
use Rattle.decide_nodes.proofs.evaluate.lanes_at.Given as goal

abbrev pub invariant-arguments : goal.invariant-arguments
invariant-arguments l = AgreesSoFar l.arguments l.lane_table l.number l.lanes l.rest l.argument-index
