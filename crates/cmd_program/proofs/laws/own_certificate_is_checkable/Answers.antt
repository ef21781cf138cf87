-- The law stands in its lemma.
use Rattle.cmd_program.proofs.OwnChecks.{own_checkable}
use Rattle.cmd_program.proofs.laws.own_certificate_is_checkable.Goals as goal

pub returns : goal.returns
returns c = own_checkable
