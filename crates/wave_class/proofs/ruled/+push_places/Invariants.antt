-- The rest of the pins is shorter.
use Rattle.std.proofs.Common.{length}
use Rattle.wave_class.proofs.ruled.+push_places.Given as goal

abbrev pub decreases-push_places : goal.decreases-push_places
decreases-push_places l = length l.pins.now
