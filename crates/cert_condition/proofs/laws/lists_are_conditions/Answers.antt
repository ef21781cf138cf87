-- The law stands in its lemma.
use Rattle.cert_condition.proofs.NextTurns.{condition_holds}
use Rattle.cert_condition.proofs.laws.lists_are_conditions.Goals as goal

pub returns : goal.returns
returns c = condition_holds
