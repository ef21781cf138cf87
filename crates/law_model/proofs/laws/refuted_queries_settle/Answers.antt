-- The law stands in the lemma.
use Rattle.law_model.proofs.LawProofs.{refuted_law}
use Rattle.law_model.proofs.laws.refuted_queries_settle.Goals as goal

pub returns : goal.returns
returns c = refuted_law
