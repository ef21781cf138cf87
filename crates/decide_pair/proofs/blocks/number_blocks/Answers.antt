-- 256 fillings a block are enough.
use Rattle.decide_pair.proofs.BlockLanes.{more_blocks, one_block, some_blocks}
use Rattle.decide_pair.proofs.blocks.number_blocks.Goals as goal

pub returns-then-sources-lt8-clause-enough : goal.returns-then-sources-lt8-clause-enough
returns-then-sources-lt8-clause-enough c = one_block c.args.sources c.if-sources-lt8.true

pub returns-else-sources-lt8-clause-enough : goal.returns-else-sources-lt8-clause-enough
returns-else-sources-lt8-clause-enough c = (more_blocks c.args.sources c.if-sources-lt8.false c.requires).0

pub returns-else-sources-lt8-clause-some : goal.returns-else-sources-lt8-clause-some
returns-else-sources-lt8-clause-some c = some_blocks c.args.sources c.if-sources-lt8.false c.requires

pub returns-else-sources-lt8-clause-few : goal.returns-else-sources-lt8-clause-few
returns-else-sources-lt8-clause-few c = (more_blocks c.args.sources c.if-sources-lt8.false c.requires).1
