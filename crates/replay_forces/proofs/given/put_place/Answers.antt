-- One place more is made.
use Rattle.std.proofs.Common.{◌<◌, ◌∙◌, ap, arith, length}
use Rattle.std.proofs.lemmas.List.{get_or_read}
use Rattle.std.proofs.lemmas.Result.{on_ok_weaker}
use Rattle.design_cell.specs.declared.value.Value.TheVariants.{X}
use Rattle.design_circuit.specs.Circuit.{job_in}
use Rattle.design_circuit.specs.Replay.{driven, seen}
use Rattle.replay_forces.specs.ForcesOf.{needed}
use Rattle.replay_forces.proofs.Making.{forces_more, was_given}
use Rattle.replay_forces.proofs.given.put_place.Goals as goal

pub force_before-before-requires-clause-was : goal.force_before-before-requires-clause-was
force_before-before-requires-clause-was g c =
    let row = c.args.made.now.row.items in
    let spot = c.spot_of-spot.result in
    let low = c.spot_of-spot.ensures.position_within in
    let long = c.requires.made.row.long in
    let within : spot.position < length row = omega (arith, low, long) in
    was_given (job_in c.args.circuit.now) (g.S.Source.reads c.args.values.now) c.args.place spot row
    c.args.made.now.events.items c.index-was.result.now c.spot_of-spot.ensures c.requires.made
    (get_or_read row spot.position c.index-was.result.now within c.index-was.ensures X)

pub returns : goal.returns
returns g c =
    let j = job_in c.args.circuit.now in
    let values = g.S.Source.reads c.args.values.now in
    let row = c.args.made.now.row.items in
    let spot = c.spot_of-spot.result in
    let low = c.spot_of-spot.ensures.position_within in
    let long = c.requires.made.row.long in
    let within : spot.position < length row = omega (arith, low, long) in
    let was = c.index-was.result.now in
    on_ok_weaker c.push_change.result (λ pushed.
    forces_more j c.args.circuit.now.fits.fits_job values c.args.place spot row c.args.made.now.events.items
    c.push_change.new.events.items was c.driven_value-given.result c.force_before-before.result c.needed.result
    c.spot_of-spot.ensures c.requires.made (get_or_read row spot.position was within c.index-was.ensures X)
    (c.driven_value-given.ensures
    ∙ ap (λ d. driven j (seen values was) spot.step spot.net d) c.driver_at-driver.ensures)
    c.force_before-before.ensures
    (c.needed.ensures ∙ ap (needed c.driven_value-given.result) c.value.ensures)
    pushed) c.push_change.ensures
