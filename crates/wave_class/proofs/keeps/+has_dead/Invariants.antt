-- The pins get fewer.
use Rattle.std.proofs.Common.{length}
use Rattle.wave_class.proofs.keeps.+has_dead.Given as goal

abbrev pub decreases-has_dead : goal.decreases-has_dead
decreases-has_dead l = length l.pins.now
