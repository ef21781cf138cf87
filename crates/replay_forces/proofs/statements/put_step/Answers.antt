-- Where statements are new, what they don't name rests; where none is, all rests.
use Rattle.std.proofs.Common.{arith}
use Rattle.design_circuit.specs.Circuit.{job_in}
use Rattle.replay_forces.proofs.Stating.{marked_rest, step_rests}
use Rattle.replay_forces.proofs.statements.put_step.Goals as goal

pub put_due-requires-clause-rest : goal.put_due-requires-clause-rest
put_due-requires-clause-rest c =
    let step = c.args.step.now in
    marked_rest (job_in step.circuit.now) step.circuit.now.fits.fits_job step.statements.now step.number c.args.from c.args.to c.mark_events.new.due c.mark_events.ensures.events c.requires.rest

pub returns-else-from-to : goal.returns-else-from-to
returns-else-from-to c =
    let step = c.args.step.now in
    let test = c.if-from-to.false in
    step_rests (job_in step.circuit.now) step.statements.now step.number c.args.from c.args.to c.args.changes.now (omega (arith, test)) c.requires.rest c.requires.changes
