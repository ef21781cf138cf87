-- The net of the place is still, or is due with what reads it.
use Rattle.design_circuit.specs.Circuit.{job_in}
use Rattle.replay_forces.specs.Still.{looked_on, watched}
use Rattle.replay_forces.proofs.Moving.{looked_nets, marked_more, marked_still, still_at, watched_nets}
use Rattle.replay_forces.proofs.moves.mark_place.Goals as goal

pub returns-then-is_same-clause-due : goal.returns-then-is_same-clause-due
returns-then-is_same-clause-due g c =
    let step = c.args.step.now in
    let j = job_in step.circuit.now in
    let fits = step.circuit.now.fits.fits_job in
    let values = g.S.Source.reads c.args.values.now in
    let still = still_at j fits values step.number c.args.position c.args.place c.width_of.result c.value.result c.value-2.result c.requires.later c.requires.position c.requires.place c.width_of.ensures c.value.ensures c.value-2.ensures (c.is_same.ensures.same c.if-is_same.true) in
    marked_still j fits values (watched j) step.number c.args.position c.args.waiting.now.due (watched_nets j fits) still c.requires.due

pub returns-then-is_same-clause-ahead : goal.returns-then-is_same-clause-ahead
returns-then-is_same-clause-ahead g c =
    let step = c.args.step.now in
    let j = job_in step.circuit.now in
    let fits = step.circuit.now.fits.fits_job in
    let values = g.S.Source.reads c.args.values.now in
    let still = still_at j fits values step.number c.args.position c.args.place c.width_of.result c.value.result c.value-2.result c.requires.later c.requires.position c.requires.place c.width_of.ensures c.value.ensures c.value-2.ensures (c.is_same.ensures.same c.if-is_same.true) in
    marked_still j fits values (looked_on j) step.number c.args.position c.args.waiting.now.ahead (looked_nets j fits) still c.requires.ahead

pub returns-clause-due : goal.returns-clause-due
returns-clause-due g c =
    let step = c.args.step.now in
    let j = job_in step.circuit.now in
    let fits = step.circuit.now.fits.fits_job in
    marked_more j fits (g.S.Source.reads c.args.values.now) (watched j) step.number c.args.position c.args.waiting.now.due c.mark_move.new.waiting.due (watched_nets j fits) c.mark_move.ensures.due c.requires.due

pub returns-clause-ahead : goal.returns-clause-ahead
returns-clause-ahead g c =
    let step = c.args.step.now in
    let j = job_in step.circuit.now in
    let fits = step.circuit.now.fits.fits_job in
    marked_more j fits (g.S.Source.reads c.args.values.now) (looked_on j) step.number c.args.position c.args.waiting.now.ahead c.mark_move.new.waiting.ahead (looked_nets j fits) c.mark_move.ensures.ahead c.requires.ahead
