-- The first eight lanes are the same in each block.
use Rattle.decide_pair.proofs.BlockLanes.{low_same}
use Rattle.decide_pair.proofs.blocks.source_lanes.Goals as goal

pub returns-then-source-lt8 : goal.returns-then-source-lt8
returns-then-source-lt8 c =
    low_same c.args.block c.args.source c.low_lanes.result c.if-source-lt8.true c.low_lanes.ensures
