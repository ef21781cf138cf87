-- Each law stands in its lemma.
use Rattle.law_waveforms.proofs.Objections.{decided_law, one_objection}
use Rattle.law_waveforms.proofs.laws.objections_are_one.Goals as goal

pub returns-clause-decided : goal.returns-clause-decided
returns-clause-decided c = decided_law

pub returns-clause-one : goal.returns-clause-one
returns-clause-one c = one_objection
