-- Each stays that of its place.
use Rattle.cert_turns.proofs.ConditionLists.{conditions_stay}
use Rattle.cert_turns.proofs.laws.conditions_stay.Goals as goal

pub returns : goal.returns
returns c = conditions_stay c.conditions_stay_right.ensures
