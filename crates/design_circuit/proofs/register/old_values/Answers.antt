-- The places two steps before have values, and what stands before step 0 is x.
use Rattle.std.proofs.Common.{◌∙◌, ap, sym}
use Rattle.design_circuit.specs.Circuit.{job_in}
use Rattle.design_circuit.specs.Register.{pins_back}
use Rattle.design_circuit.proofs.Reaching.{reach_nets, early}
use Rattle.design_circuit.proofs.register.old_values.Goals as goal

pub pin_values-requires-clause-reach : goal.pin_values-requires-clause-reach
pin_values-requires-clause-reach g c =
    rw c.as_slice.ensures (reach_nets (job_in c.args.circuit.now) c.args.circuit.now.fits.fits_job (g.S.Source.has c.args.source.now) c.args.step c.in-Some.earlier c.args.latching.now.pins c.requires.has (rw c.in-Some.is at c.two_back.ensures.before) c.requires.register.nets)

pub returns-in-None-clause-values : goal.returns-in-None-clause-values
returns-in-None-clause-values g c = early c.args.latching.now.pins 10 c.requires.register.primitive.few ∙ ap (pins_back (job_in c.args.circuit.now) (g.S.Source.reads c.args.source.now) c.args.latching.now.pins) (sym c.in-None.is ∙ c.two_back.ensures.step)
