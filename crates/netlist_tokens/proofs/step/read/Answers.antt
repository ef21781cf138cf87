-- What is read here is what is told.
use Rattle.std.proofs.Common.{rules}
use Rattle.netlist_tokens.proofs.Told.{left_empty, left_reads, left_refuses}
use Rattle.netlist_tokens.proofs.step.read.Goals as goal

pub returns-then-is_empty-clause-tells : goal.returns-then-is_empty-clause-tells
returns-then-is_empty-clause-tells c = left_empty _ _ (search rules)

pub returns-in-Ok-clause-tells : goal.returns-in-Ok-clause-tells
returns-in-Ok-clause-tells c =
    left_reads c.args.at c.args.rest.now c.in-Ok.token c.in-Ok.after.now (search rules) c.requires.no_blank c.requires.no_directive c.in-Ok.ensures.reads

pub returns-in-Err-clause-tells : goal.returns-in-Err-clause-tells
returns-in-Err-clause-tells c =
    left_refuses c.args.at c.args.rest.now c.in-Err.refusal (search rules) c.requires.no_blank c.requires.no_directive c.in-Err.ensures.reads
