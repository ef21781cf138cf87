-- All bits of each part are 1.
use Rattle.decide_nodes.proofs.EachLane.{lane_ones}
use Rattle.decide_nodes.proofs.lane_bits.LaneBits.ones.Goals as goal

pub returns : goal.returns
returns c = lane_ones
