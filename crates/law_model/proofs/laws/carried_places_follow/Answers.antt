-- The law stands in the lemma.
use Rattle.law_model.proofs.LawProofs.{carry_law}
use Rattle.law_model.proofs.laws.carried_places_follow.Goals as goal

pub returns : goal.returns
returns c = carry_law
