-- The readings of the bits so far.
use Rattle.std.proofs.Common.{◌≡◌, ◌++◌, take}
use Rattle.replay_fans.specs.Readings.{readings_of}
use Rattle.replay_history.proofs.watchers.push_bits.Given as goal

abbrev pub invariant-nets : goal.invariant-nets
invariant-nets l = l.readings.items ≡ l.initial.readings.items ++ readings_of l.number (take l.net-index l.variable.bits)
