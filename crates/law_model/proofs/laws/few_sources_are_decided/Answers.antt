-- The law stands in the lemma.
use Rattle.law_model.proofs.LawProofs.{few_sources_law}
use Rattle.law_model.proofs.laws.few_sources_are_decided.Goals as goal

pub returns : goal.returns
returns c = few_sources_law
