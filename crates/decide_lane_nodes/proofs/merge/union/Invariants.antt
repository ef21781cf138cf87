-- What is merged so far, and what is left.
use Rattle.std.proofs.Common.{◌+◌, length}
use Rattle.decide_lane_nodes.proofs.Unions.{IsMerged}
use Rattle.decide_lane_nodes.proofs.merge.union.Given as goal

abbrev pub invariant-places : goal.invariant-places
invariant-places l = IsMerged l.some l.others l.all.items l.left l.right

abbrev pub decreases-places : goal.decreases-places
decreases-places l = length l.left + length l.right
