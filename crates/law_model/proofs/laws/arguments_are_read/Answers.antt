-- The law stands in the lemma.
use Rattle.law_model.proofs.LawProofs.{arguments_law}
use Rattle.law_model.proofs.laws.arguments_are_read.Goals as goal

pub returns : goal.returns
returns c = arguments_law
