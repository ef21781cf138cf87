-- Each law stands in its lemma.
use Rattle.cert_condition.proofs.KeptConditions.{turns_law}
use Rattle.cert_condition.proofs.WholeLists.{whole_list_law}
use Rattle.cert_condition.proofs.laws.turns_keep_conditions.Goals as goal

pub returns-clause-all : goal.returns-clause-all
returns-clause-all c = whole_list_law

pub returns-clause-turns : goal.returns-clause-turns
returns-clause-turns c = turns_law
