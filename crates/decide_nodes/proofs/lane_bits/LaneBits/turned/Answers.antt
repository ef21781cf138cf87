-- Part by part, the bits are those of the mask's exclusive or.
use Rattle.decide_nodes.proofs.EachLane.{lane_turned}
use Rattle.decide_nodes.proofs.lane_bits.LaneBits.turned.Goals as goal

pub returns : goal.returns
returns c = rw (c.self.view_is, c.equal_bits-mask.ensures) (λ lane less. lane_turned c.args.self c.args.inverted lane less)
