-- A pin's net reaches its place, as the nets of all pins do.
use Rattle.std.proofs.Common.{arith}
use Rattle.design_circuit.specs.declared.design.Pin.TheVariants.{Net}
use Rattle.design_circuit.proofs.Pins.{net_pins_one}
use Rattle.wave_class.specs.Wires.{Reaches}
use Rattle.wave_class.proofs.moved.values_there.Goals as goal

pub value_there-requires : goal.value_there-requires
value_there-requires g c = net_pins_one (Reaches (g.E.Source.has c.args.earlier.now) c.args.first) c.args.pins.now
    c.pins.index (Net 0) c.requires.reach (omega arith)
