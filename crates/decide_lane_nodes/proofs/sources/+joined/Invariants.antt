-- The arguments that are left get fewer.
use Rattle.std.proofs.Common.{length}
use Rattle.decide_lane_nodes.proofs.sources.+joined.Given as goal

abbrev pub decreases-joined : goal.decreases-joined
decreases-joined l = length l.arguments.now
