-- Each law stands in its lemma.
use Rattle.law_quiet.proofs.Sweeps.{begins_law, none_due_law, skip_law, start_law, visit_law}
use Rattle.law_quiet.proofs.laws.steps_are_swept.Goals as goal

pub returns-clause-start : goal.returns-clause-start
returns-clause-start c = start_law

pub returns-clause-begins : goal.returns-clause-begins
returns-clause-begins c = begins_law

pub returns-clause-visit : goal.returns-clause-visit
returns-clause-visit c = visit_law

pub returns-clause-none_due : goal.returns-clause-none_due
returns-clause-none_due c = none_due_law

pub returns-clause-skip : goal.returns-clause-skip
returns-clause-skip c = skip_law
