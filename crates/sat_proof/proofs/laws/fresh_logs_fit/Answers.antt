-- The law of fresh logs, by its lemma.
use Rattle.sat_proof.proofs.NamedVariables.{fresh_fit}
use Rattle.sat_proof.proofs.laws.fresh_logs_fit.Goals as goal

pub returns : goal.returns
returns c = fresh_fit
