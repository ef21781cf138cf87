-- A pin's net stands in the order.
use Rattle.std.proofs.Common.{◌<◌, length}
use Rattle.design_circuit.proofs.Pins.{net_pins_one}
use Rattle.design_wiring.proofs.pins.add_pins.Goals as goal

pub placed-requires : goal.placed-requires
placed-requires c =
    net_pins_one (λ net. net < length c.args.order.now) c.args.own.now c.own.pin-index _ c.requires.nets c.own-test.true
