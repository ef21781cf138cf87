-- Each law stands in its lemma.
use Rattle.law_quiet.proofs.RepeatedPlaces.{repeat_law, said_law}
use Rattle.law_quiet.proofs.laws.quiet_places_repeat.Goals as goal

pub returns-clause-said : goal.returns-clause-said
returns-clause-said c = said_law

pub returns-clause-holds : goal.returns-clause-holds
returns-clause-holds c = repeat_law
