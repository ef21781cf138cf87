-- The lowest bit of a word is the first row of its block.
use Rattle.std.proofs.Common.{arith, rules}
use Rattle.design_cell.proofs.Firsts.{first_here, none_more}
use Rattle.design_cell.proofs.index.first_of.Goals as goal

pub returns-then-word-eq0-clause-first : goal.returns-then-word-eq0-clause-first
returns-then-word-eq0-clause-first c = λ rows test none before mask.
    none_more test rows c.args.base c.args.word mask c.if-word-eq0.true (rw c.in-None.is at before)

pub returns-else-word-eq0-clause-first : goal.returns-else-word-eq0-clause-first
returns-else-word-eq0-clause-first c = λ rows test none before mask.
    first_here test rows c.args.base c.args.word mask (omega arith) (search (rules, c.ranges.word)) (rw c.in-None.is at before) none
