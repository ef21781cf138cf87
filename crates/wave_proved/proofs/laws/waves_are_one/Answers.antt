-- Each law stands in its lemma.
use Rattle.wave_proved.proofs.OneWave.{one_by_lines, one_for_histories, one_wave}
use Rattle.wave_proved.proofs.laws.waves_are_one.Goals as goal

pub returns-clause-one : goal.returns-clause-one
returns-clause-one c = one_wave

pub returns-clause-histories : goal.returns-clause-histories
returns-clause-histories c = one_for_histories

pub returns-clause-lines : goal.returns-clause-lines
returns-clause-lines c = one_by_lines
