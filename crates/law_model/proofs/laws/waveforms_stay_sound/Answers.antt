-- Each law stands in its lemma.
use Rattle.law_model.proofs.LawProofs.{start_law, growth_law, yields_growth_law}
use Rattle.law_model.proofs.laws.waveforms_stay_sound.Goals as goal

pub returns-clause-start : goal.returns-clause-start
returns-clause-start c = start_law

pub returns-clause-growth : goal.returns-clause-growth
returns-clause-growth c = growth_law

pub returns-clause-yields : goal.returns-clause-yields
returns-clause-yields c = yields_growth_law
