-- Each law stands in its lemma.
use Rattle.law_waveforms.proofs.SetStarts.{certain_stays, jobs_with_starts, starts_fit, worlds_of_first}
use Rattle.law_waveforms.proofs.laws.set_starts_choose.Goals as goal

pub returns-clause-fits : goal.returns-clause-fits
returns-clause-fits c = starts_fit

pub returns-clause-worlds : goal.returns-clause-worlds
returns-clause-worlds c = worlds_of_first

pub returns-clause-certain : goal.returns-clause-certain
returns-clause-certain c = certain_stays

pub returns-clause-jobs : goal.returns-clause-jobs
returns-clause-jobs c = jobs_with_starts
