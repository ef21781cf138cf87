-- Each law stands in its lemma.
use Rattle.law_waveforms.proofs.DecidingLines.{all_decide}
use Rattle.law_waveforms.proofs.Reshowing.{reshown_law, reshown_there}
use Rattle.law_waveforms.proofs.laws.lines_yield_again.Goals as goal

pub returns-clause-yields : goal.returns-clause-yields
returns-clause-yields c = reshown_law

pub returns-clause-there : goal.returns-clause-there
returns-clause-there c = reshown_there

pub returns-clause-decide : goal.returns-clause-decide
returns-clause-decide c = all_decide
