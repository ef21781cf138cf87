-- At most 6 live pins at two steps, and the net itself.
use Rattle.std.proofs.Common.{◌≡◌, ◌+◌, ◌-◌, ◌∙◌, ap, arith, length, length-append}
use Rattle.design_circuit.specs.Circuit.{job_in}
use Rattle.design_circuit.specs.Rule.{places_at}
use Rattle.design_circuit.proofs.Reaching.{step_room}
use Rattle.wave_class.proofs.FewNets.{nets_live, places_long}
use Rattle.wave_class.proofs.ruled.looked_at.Goals as goal

pub old_arguments-arguments-requires-clause-few : goal.old_arguments-arguments-requires-clause-few
old_arguments-arguments-requires-clause-few c =
    let live = c.requires.register.live in
    let nets = nets_live c.args.latching.now.pins in
    rw c.as_slice-pins.ensures (omega (arith, live, nets))

pub old_arguments-arguments-requires-clause-small : goal.old_arguments-arguments-requires-clause-small
old_arguments-arguments-requires-clause-small c =
    step_room (job_in c.args.circuit.now) c.args.circuit.now.fits.fits_job c.args.place c.args.spot c.requires.spot

pub push_places-requires-clause-nets : goal.push_places-requires-clause-nets
push_places-requires-clause-nets c = rw c.as_slice-pins.ensures c.requires.register.nets

pub push_places-requires-clause-room : goal.push_places-requires-clause-room
push_places-requires-clause-room c =
    let live = c.requires.register.live in
    let nets = nets_live c.args.latching.now.pins in
    let old = c.old_arguments-arguments.ensures.few in
    rw c.as_slice-pins.ensures (omega (arith, live, nets, old))

pub push-requires : goal.push-requires
push-requires c =
    let live = c.requires.register.live in
    let nets = nets_live c.args.latching.now.pins in
    let old = c.old_arguments-arguments.ensures.few in
    let new = places_long (job_in c.args.circuit.now) (c.args.spot.step - 1) c.args.latching.now.pins in
    let both : length c.push_places.new.arguments ≡ length c.old_arguments-arguments.result
    + length (places_at (job_in c.args.circuit.now) (c.args.spot.step - 1) c.args.latching.now.pins) =
    ap length (rw c.as_slice-pins.ensures at c.push_places.ensures)
    ∙ length-append c.old_arguments-arguments.result (places_at (job_in c.args.circuit.now) (c.args.spot.step - 1)
    c.args.latching.now.pins) in
    omega (arith, live, nets, old, new, both)
