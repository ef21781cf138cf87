-- The lanes so far cover the values so far.
use Rattle.decide_nodes.proofs.LaneTables.{CoversSoFar}
use Rattle.decide_nodes.proofs.evaluate.rule_lanes.Given as goal

abbrev pub invariant-values : goal.invariant-values
invariant-values l = CoversSoFar l.arguments l.values l.lane_table l.own l.lane_bits l.number
