-- The rest of the pins is shorter.
use Rattle.std.proofs.Common.{length}
use Rattle.wave_class.proofs.moved.+positions_known.Given as goal

abbrev pub decreases-positions_known : goal.decreases-positions_known
decreases-positions_known g l = length l.pins.now
