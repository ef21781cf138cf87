-- Each law stands in its lemma.
use Rattle.law_model.proofs.LawProofs.{body_law, body_before_law}
use Rattle.law_model.proofs.laws.bodies_give.Goals as goal

pub returns-clause-gives : goal.returns-clause-gives
returns-clause-gives c = body_law

pub returns-clause-before : goal.returns-clause-before
returns-clause-before c = body_before_law
