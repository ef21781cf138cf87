-- What a lane says is said of its number.
use Rattle.decide_pair.proofs.TriedNumbers.{block_agrees, block_least}
use Rattle.decide_pair.proofs.found.found_in.Goals as goal

pub returns-in-None-clause-found : goal.returns-in-None-clause-found
returns-in-None-clause-found c =
    block_agrees c.args.cone.now.nodes c.fill_block.new.given c.args.block c.fill_block.ensures.long c.fill_block.ensures.lane_table
    c.requires.block c.in-None.ensures.lane

pub returns-in-Some-clause-found : goal.returns-in-Some-clause-found
returns-in-Some-clause-found c =
    block_least c.args.cone.now.nodes c.fill_block.new.given c.args.block c.in-Some.lane c.fill_block.ensures.long
    c.fill_block.ensures.lane_table c.requires.block c.in-Some.ensures.lane
