-- The walk is that of the job, and fewer places are left.
use Rattle.std.proofs.Common.{◌≡◌}
use Rattle.wave_proved.specs.Contents.{nothing_of}
use Rattle.decide_repair.specs.Walk.{left_of}
use Rattle.decide_repair.proofs.walk.repair.Given as goal

abbrev pub invariant-pieces : goal.invariant-pieces
invariant-pieces l = l.walk.start ≡ nothing_of l.circuit l.replayed l.fn.limits

abbrev pub decreases-pieces : goal.decreases-pieces
decreases-pieces l = left_of l.walk
