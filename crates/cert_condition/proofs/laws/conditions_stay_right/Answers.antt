-- The law stands in its lemma.
use Rattle.cert_condition.proofs.StayingConditions.{conditions_stay}
use Rattle.cert_condition.proofs.laws.conditions_stay_right.Goals as goal

pub returns : goal.returns
returns c = conditions_stay
