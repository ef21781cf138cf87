-- A pin's net has a value, as the nets of all pins do.
use Rattle.std.proofs.Common.{arith}
use Rattle.design_circuit.specs.declared.design.Pin.TheVariants.{Net}
use Rattle.design_circuit.specs.Circuit.{job_in, Reach}
use Rattle.design_circuit.proofs.Pins.{net_pins_one}
use Rattle.design_circuit.proofs.reads.pin_values.Goals as goal

pub pin_value-requires-clause-reach : goal.pin_value-requires-clause-reach
pin_value-requires-clause-reach g c = net_pins_one (Reach (job_in c.args.circuit.now) (g.S.Source.has c.args.source.now) c.args.step) c.args.pins.now c.pins.place (Net 0) c.requires.reach (omega arith)
