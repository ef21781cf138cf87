-- The rest of the pins is shorter.
use Rattle.std.proofs.Common.{length}
use Rattle.wave_class.proofs.steady.+positions_keep.Given as goal

abbrev pub decreases-positions_keep : goal.decreases-positions_keep
decreases-positions_keep g l = length l.pins.now
