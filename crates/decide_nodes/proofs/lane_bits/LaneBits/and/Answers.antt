-- Part by part, both bits.
use Rattle.decide_nodes.proofs.EachLane.{lane_and}
use Rattle.decide_nodes.proofs.lane_bits.LaneBits.and.Goals as goal

pub returns : goal.returns
returns c = rw (c.self.view_is, c.other.view_is) (λ lane less. lane_and c.args.self c.args.other lane less)
