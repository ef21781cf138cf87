-- The history shows something at the nets of the pins.
use Rattle.design_circuit.specs.Circuit.{job_in}
use Rattle.report_audit.proofs.Seeing.{nets_shown, room_at}
use Rattle.report_audit.proofs.rows.shown_pins.Goals as goal

pub pin_values-requires-clause-reach : goal.pin_values-requires-clause-reach
pin_values-requires-clause-reach c =
    nets_shown c.args.circuit.now c.args.replayed.now c.requires.places c.args.step c.requires.step
    c.args.pins.now c.requires.nets

pub pin_values-requires-clause-small : goal.pin_values-requires-clause-small
pin_values-requires-clause-small c =
    room_at (job_in c.args.circuit.now) c.args.circuit.now.fits.fits_job c.args.step c.requires.step
