-- The rest of the pins is shorter.
use Rattle.std.proofs.Common.{length}
use Rattle.wave_class.proofs.keeps.+pins_keep.Given as goal

abbrev pub decreases-pins_keep : goal.decreases-pins_keep
decreases-pins_keep g l = length l.pins.now
