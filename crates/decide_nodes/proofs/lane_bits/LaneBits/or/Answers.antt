-- Part by part, either bit.
use Rattle.decide_nodes.proofs.EachLane.{lane_or}
use Rattle.decide_nodes.proofs.lane_bits.LaneBits.or.Goals as goal

pub returns : goal.returns
returns c = rw (c.self.view_is, c.other.view_is) (λ lane less. lane_or c.args.self c.args.other lane less)
