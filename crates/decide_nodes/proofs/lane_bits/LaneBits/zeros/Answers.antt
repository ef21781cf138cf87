-- No bit of a part is 1.
use Rattle.decide_nodes.proofs.EachLane.{lane_zeros}
use Rattle.decide_nodes.proofs.lane_bits.LaneBits.zeros.Goals as goal

pub returns : goal.returns
returns c = lane_zeros
