-- Each law stands in its lemma.
use Rattle.law_waveforms.proofs.Alikes.{alike_law, one_law}
use Rattle.law_waveforms.proofs.laws.sound_waveforms_are_alike.Goals as goal

pub returns-clause-histories : goal.returns-clause-histories
returns-clause-histories c = alike_law

pub returns-clause-one : goal.returns-clause-one
returns-clause-one c = one_law
