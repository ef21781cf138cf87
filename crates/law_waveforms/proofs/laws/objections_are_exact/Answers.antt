-- Each law stands in its lemma.
use Rattle.law_waveforms.proofs.Objections.{objection_law}
use Rattle.law_waveforms.proofs.Said.{said_law}
use Rattle.law_waveforms.proofs.laws.objections_are_exact.Goals as goal

pub returns-clause-said : goal.returns-clause-said
returns-clause-said c = said_law

pub returns-clause-exact : goal.returns-clause-exact
returns-clause-exact c = objection_law
