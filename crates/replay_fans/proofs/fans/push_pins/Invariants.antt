-- The readings of the pins so far.
use Rattle.std.proofs.Common.{◌≡◌, ◌++◌, take}
use Rattle.design_circuit.specs.Order.{net_pins}
use Rattle.replay_fans.specs.Readings.{readings_of}
use Rattle.replay_fans.proofs.fans.push_pins.Given as goal

abbrev pub invariant-pins : goal.invariant-pins
invariant-pins l = l.readings.items ≡ l.initial.readings.items ++ readings_of l.position
    (net_pins (take l.pin-index l.pins))
