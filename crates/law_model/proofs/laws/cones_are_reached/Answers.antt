-- The law stands in the lemma.
use Rattle.law_model.proofs.LawProofs.{reach_law}
use Rattle.law_model.proofs.laws.cones_are_reached.Goals as goal

pub returns : goal.returns
returns c = reach_law
