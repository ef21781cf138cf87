-- Each law stands in its lemma.
use Rattle.law_quiet.proofs.SoundQuiet.{roots_law, worlds_law}
use Rattle.law_quiet.proofs.laws.quiet_places_follow.Goals as goal

pub returns-clause-roots : goal.returns-clause-roots
returns-clause-roots c = roots_law

pub returns-clause-worlds : goal.returns-clause-worlds
returns-clause-worlds c = worlds_law
