-- Each law stands in its lemma.
use Rattle.law_model.proofs.LawProofs.{yields_law, honest_law}
use Rattle.law_model.proofs.laws.lines_yield_one.Goals as goal

pub returns-clause-one : goal.returns-clause-one
returns-clause-one c = yields_law

pub returns-clause-honest : goal.returns-clause-honest
returns-clause-honest c = honest_law
