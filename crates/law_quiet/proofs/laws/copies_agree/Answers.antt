-- Each law stands in its lemma.
use Rattle.law_quiet.proofs.CopiedPlaces.{copies_law, copy_law, handed_law}
use Rattle.law_quiet.proofs.laws.copies_agree.Goals as goal

pub returns-clause-copied : goal.returns-clause-copied
returns-clause-copied c = copy_law

pub returns-clause-handed : goal.returns-clause-handed
returns-clause-handed c = handed_law

pub returns-clause-written : goal.returns-clause-written
returns-clause-written c = copies_law
