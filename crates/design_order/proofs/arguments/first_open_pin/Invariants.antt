-- The loop of `first_open_pin`.
use Rattle.std.proofs.Common.{◌≡◌, drop}
use Rattle.design_circuit.specs.Order.{net_pins}
use Rattle.design_order.specs.Progress.{first_open}
use Rattle.design_order.proofs.arguments.first_open_pin.Given as goal

abbrev pub invariant-loop-pin : goal.invariant-loop-pin
invariant-loop-pin l = first_open l.flags (net_pins l.pins) ≡ first_open l.flags (net_pins (drop l.pin-index l.pins))
