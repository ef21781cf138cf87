-- The lane of a number has its bits.
use Rattle.decide_pair.proofs.TriedNumbers.{lane_of_number}
use Rattle.decide_pair.proofs.decision.pair_of_number.Goals as goal

pub pair_of_lane-requires-clause-differs : goal.pair_of_lane-requires-clause-differs
pair_of_lane-requires-clause-differs c =
    rw (lane_of_number c.fill_block.new.given c.args.number c.fill_block.ensures.long c.fill_block.ensures.lane_table
    c.requires.small) c.requires.other

pub returns-clause-body : goal.returns-clause-body
returns-clause-body c =
    let bits = lane_of_number c.fill_block.new.given c.args.number c.fill_block.ensures.long c.fill_block.ensures.lane_table
    c.requires.small in
    rw bits at c.pair_of_lane.ensures.body
