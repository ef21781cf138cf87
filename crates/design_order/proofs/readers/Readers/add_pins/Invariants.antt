-- The loop of `add_pins`.
use Rattle.std.proofs.Common.{take}
use Rattle.design_circuit.specs.Order.{net_pins}
use Rattle.design_order.specs.Readers.{AddsTo}
use Rattle.design_order.proofs.readers.Readers.add_pins.Given as goal

abbrev pub invariant-loop-pin : goal.invariant-loop-pin
invariant-loop-pin l = AddsTo l.initial.self l.self (net_pins (take l.pin-index l.pins)) l.net
