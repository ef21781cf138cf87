-- The lanes whose numbers have fewer ones have none.
use Rattle.decide_pair.proofs.LeastLanes.{NoneWithFewer}
use Rattle.decide_pair.proofs.lanes.least_lane.Given as goal

abbrev pub invariant-counts : goal.invariant-counts
invariant-counts l = NoneWithFewer l.lane_bits l.count
