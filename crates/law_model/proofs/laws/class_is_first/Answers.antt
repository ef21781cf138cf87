-- The law stands in the lemma.
use Rattle.law_model.proofs.LawProofs.{class_law}
use Rattle.law_model.proofs.laws.class_is_first.Goals as goal

pub returns : goal.returns
returns c = class_law
