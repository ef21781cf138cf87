-- A pair of values that the row takes, or not.
use Rattle.std.proofs.Common.{◌∙◌, sym, arith}
use Rattle.design_cell.specs.Row.{symbol_at}
use Rattle.design_cell.proofs.Probes.{taking_word, taking_none, taken_at}
use Rattle.design_cell.proofs.probe.Probe.taking.Goals as goal

pub returns-then-self-c : goal.returns-then-self-c
returns-then-self-c c = λ inputs row rows base probe is. taking_word (symbol_at row c.args.c) rows base c.args.block.now is c.args.c c.args.pair (omega arith) c.requires.pair (sym (taken_at inputs row c.args.self.now probe c.args.c c.args.pair c.requires.column c.requires.pair) ∙ c.if-self-c.true)

pub returns-else-self-c : goal.returns-else-self-c
returns-else-self-c c = λ inputs row rows base probe is. taking_none (symbol_at row c.args.c) rows base c.args.c c.args.pair (sym (taken_at inputs row c.args.self.now probe c.args.c c.args.pair c.requires.column c.requires.pair) ∙ c.if-self-c.false)
