-- Each law stands in its lemma.
use Rattle.law_quiet.proofs.QuietAhead.{along_law, here_law}
use Rattle.law_quiet.proofs.QuietStays.{calm_law, cell_law, stays_law}
use Rattle.law_quiet.proofs.ToldCalm.{told_law}
use Rattle.law_quiet.proofs.laws.quiet_places_stay.Goals as goal

pub returns-clause-here : goal.returns-clause-here
returns-clause-here c = here_law

pub returns-clause-stays : goal.returns-clause-stays
returns-clause-stays c = stays_law

pub returns-clause-calm : goal.returns-clause-calm
returns-clause-calm c = calm_law

pub returns-clause-cell : goal.returns-clause-cell
returns-clause-cell c = cell_law

pub returns-clause-told : goal.returns-clause-told
returns-clause-told c = told_law

pub returns-clause-along : goal.returns-clause-along
returns-clause-along c = along_law
