-- What the definitions compute stands in the lemmas.
use Rattle.law_model.proofs.WorkedClasses.{each_kind}
use Rattle.law_model.proofs.worked.classes_by_hand.Goals as goal

pub returns : goal.returns
returns c = each_kind
