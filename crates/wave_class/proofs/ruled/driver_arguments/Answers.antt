-- A step has room for all nets, and a cell has few pins.
use Rattle.design_circuit.specs.Circuit.{job_in}
use Rattle.design_circuit.proofs.Reaching.{step_room}
use Rattle.wave_class.proofs.FewNets.{cell_few}
use Rattle.wave_class.proofs.ruled.driver_arguments.Goals as goal

pub one_place-requires-clause-small : goal.one_place-requires-clause-small
one_place-requires-clause-small g c = step_room (job_in c.args.circuit.now) c.args.circuit.now.fits.fits_job c.args.place
    c.args.spot c.requires.spot

pub pin_places-requires-clause-small : goal.pin_places-requires-clause-small
pin_places-requires-clause-small g c = step_room (job_in c.args.circuit.now) c.args.circuit.now.fits.fits_job c.args.place
    c.args.spot c.requires.spot

pub pin_places-requires-clause-nets : goal.pin_places-requires-clause-nets
pin_places-requires-clause-nets g c = rw c.as_slice.ensures (rw c.in-Cell.is at c.requires.nets)

pub pin_places-requires-clause-few : goal.pin_places-requires-clause-few
pin_places-requires-clause-few g c =
    rw c.as_slice.ensures (cell_few (job_in c.args.circuit.now).udps c.in-Cell.field-0 c.in-Cell.pins
    (rw c.in-Cell.is at c.requires.driver))
