-- A net of a step by its place.
use Rattle.std.proofs.Common.{◌<◌, ◌∙◌, sym, ap, arith}
use Rattle.design_circuit.specs.Replay.{Held}
use Rattle.design_circuit.specs.Circuit.{job_in}
use Rattle.replay_history.proofs.Places.{has_step, held_at_net}
use Rattle.replay_history.proofs.held.net_value.Goals as goal

pub shown-requires : goal.shown-requires
shown-requires c =
    let room = has_step (job_in c.args.circuit.now) c.args.row.now.history c.args.row.now.step c.requires.places c.requires.step in
    let within : c.args.net < c.args.row.now.history.nets = rw c.requires.places.nets c.requires.net in
    record { net = within; step = omega (arith, room.room, within) }

pub returns : goal.returns
returns c = c.shown.ensures ∙ sym (ap (λ (held : Held). held.shown) (held_at_net (job_in c.args.circuit.now) c.args.circuit.now.fits.fits_job c.args.row.now.history c.args.row.now.step c.args.net c.requires.net))
