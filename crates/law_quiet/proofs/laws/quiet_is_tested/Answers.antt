-- The law stands in its lemma.
use Rattle.law_quiet.proofs.QuietTests.{quiet_tested}
use Rattle.law_quiet.proofs.laws.quiet_is_tested.Goals as goal

pub returns : goal.returns
returns c = quiet_tested
