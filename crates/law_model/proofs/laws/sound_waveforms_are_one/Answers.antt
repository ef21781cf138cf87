-- Each law stands in its lemma.
use Rattle.law_model.proofs.LawProofs.{one_sound, one_for_histories}
use Rattle.law_model.proofs.laws.sound_waveforms_are_one.Goals as goal

pub returns-clause-one : goal.returns-clause-one
returns-clause-one c = one_sound

pub returns-clause-histories : goal.returns-clause-histories
returns-clause-histories c = one_for_histories
