-- A mask of high ones.
use Rattle.replay_due.proofs.Words.{rest_below, rest_from}
use Rattle.replay_due.proofs.due.bits_from.Goals as goal

pub returns-clause-below : goal.returns-clause-below
returns-clause-below c = λ bit less. rest_below c.args.word c.args.start bit c.requires less

pub returns-clause-from : goal.returns-clause-from
returns-clause-from c = λ bit from less. rest_from c.args.word c.args.start bit c.requires from less
