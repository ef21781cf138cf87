-- One event less.
use Rattle.std.proofs.Common.{length}
use Rattle.test_code.proofs.scoped.+are_places.Given as goal

abbrev pub decreases-are_places : goal.decreases-are_places
decreases-are_places l = length l.events.now
