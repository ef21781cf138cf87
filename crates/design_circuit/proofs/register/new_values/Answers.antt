-- The places one step before have values.
use Rattle.std.proofs.Common.{◌-◌, arith}
use Rattle.design_circuit.specs.Circuit.{job_in}
use Rattle.design_circuit.proofs.Reaching.{reach_nets}
use Rattle.design_circuit.proofs.register.new_values.Goals as goal

pub pin_values-requires-clause-reach : goal.pin_values-requires-clause-reach
pin_values-requires-clause-reach g c =
    rw c.as_slice.ensures (reach_nets (job_in c.args.circuit.now) c.args.circuit.now.fits.fits_job (g.S.Source.has c.args.source.now) c.args.step (c.args.step - 1) c.args.latching.now.pins c.requires.has (let later = c.requires.later in omega (arith, later)) c.requires.register.nets)
