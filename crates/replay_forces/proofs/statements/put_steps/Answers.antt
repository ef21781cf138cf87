-- What no statement of a step names is forced as one step before.
use Rattle.design_circuit.specs.Circuit.{job_in}
use Rattle.replay_history.specs.Forced.{HasForced}
use Rattle.replay_history.proofs.Forces.{taken_later}
use Rattle.replay_forces.proofs.Stating.{rest_but, were_forced}
use Rattle.replay_forces.proofs.statements.put_steps.Goals as goal

pub put_step-requires-clause-rest : goal.put_step-requires-clause-rest
put_step-requires-clause-rest c =
    let j = job_in c.args.circuit.now in
    let long = c.steps.invariant.taken.long in
    let has : HasForced j.width c.args.statements.now c.steps.number c.take_events-taken.new.values = rw long at c.take_events-taken.ensures.forced in
    rest_but j c.args.circuit.now.fits.fits_job c.args.statements.now c.steps.number c.steps.taken c.take_events-taken.result c.steps.forced c.take_events-taken.new.values c.steps.invariant.were has c.take_events-taken.ensures.elsewhere

pub steps-preserved : goal.steps-preserved
steps-preserved c =
    let j = job_in c.args.circuit.now in
    let long = c.steps.invariant.taken.long in
    let values = c.take_events-taken.new.values in
    let has : HasForced j.width c.args.statements.now c.steps.number values = rw long at c.take_events-taken.ensures.forced in
    record {
      taken = taken_later j.width c.args.statements.now c.steps.number c.take_events-taken.result values (rw long at c.take_events-taken.ensures.taken);
      were = were_forced j c.args.circuit.now.fits.fits_job c.args.statements.now c.steps.number values has;
      changes = c.in_ok-put_step.ensures;
    }
