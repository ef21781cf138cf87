-- Each law stands in its lemma.
use Rattle.law_quiet.proofs.QuietClasses.{keeps_law, quiet_law}
use Rattle.law_quiet.proofs.laws.quiet_places_keep.Goals as goal

pub returns-clause-quiet : goal.returns-clause-quiet
returns-clause-quiet c = quiet_law

pub returns-clause-keeps : goal.returns-clause-keeps
returns-clause-keeps c = keeps_law
