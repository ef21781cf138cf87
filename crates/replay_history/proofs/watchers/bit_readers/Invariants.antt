-- The readings of the bound variables so far.
use Rattle.std.proofs.Common.{◌≡◌}
use Rattle.replay_history.specs.Watched.{bit_readings}
use Rattle.replay_history.proofs.watchers.bit_readers.Given as goal

abbrev pub invariant-variables : goal.invariant-variables
invariant-variables l = l.readings.items ≡ bit_readings l.bound l.number
