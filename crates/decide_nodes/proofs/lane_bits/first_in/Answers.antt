-- The lowest 1 of the first part that has one.
use Rattle.decide_nodes.proofs.EachLane.{one_at}
use Rattle.decide_nodes.proofs.lane_bits.first_in.Goals as goal

pub returns-then-bits-ne0 : goal.returns-then-bits-ne0
returns-then-bits-ne0 c =
    one_at c.args.parts.now c.parts.part c.parts-test.true c.if-bits-ne0.true
    (c.type_inv.parts c.parts.part).fits
