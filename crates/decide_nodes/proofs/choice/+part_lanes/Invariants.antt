-- The arguments that are left get fewer.
use Rattle.std.proofs.Common.{length}
use Rattle.decide_nodes.proofs.choice.+part_lanes.Given as goal

abbrev pub decreases-part_lanes : goal.decreases-part_lanes
decreases-part_lanes l = length l.arguments.now
