-- No bit so far is set.
use Rattle.std.proofs.Common.{◌*◌}
use Rattle.replay_due.specs.Due.{NoneBetween}
use Rattle.replay_due.proofs.due.first_bit.Given as goal

abbrev pub invariant-places : goal.invariant-places
invariant-places l = NoneBetween l.words l.from (l.place * 64)
