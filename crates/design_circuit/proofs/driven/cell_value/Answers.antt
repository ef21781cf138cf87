-- A step has room for all nets.
use Rattle.design_circuit.specs.Circuit.{job_in}
use Rattle.design_circuit.proofs.Reaching.{step_room}
use Rattle.design_circuit.proofs.driven.cell_value.Goals as goal

pub pin_values-values-requires-clause-small : goal.pin_values-values-requires-clause-small
pin_values-values-requires-clause-small g c = step_room (job_in c.args.circuit.now) c.args.circuit.now.fits.fits_job c.args.place c.args.spot c.requires.spot
