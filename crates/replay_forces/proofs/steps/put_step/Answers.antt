-- What isn't due rests, and behind the step what is ahead is due.
use Rattle.std.proofs.Common.{◌+◌, ◌<◌, List, ℕ, arith, subst, sym}
use Rattle.design_circuit.specs.Circuit.{job_in}
use Rattle.replay_forces.specs.Still.{AreAwaited}
use Rattle.replay_forces.proofs.Moving.{awaited_next, later_rests}
use Rattle.replay_forces.proofs.steps.put_step.Goals as goal

pub put_due-requires-2-clause-rest : goal.put_due-requires-2-clause-rest
put_due-requires-2-clause-rest g c =
    let step = c.args.step.now in
    later_rests (job_in step.circuit.now) step.circuit.now.fits.fits_job (g.S.Source.reads c.args.values.now) step.number c.args.waiting.now.due c.mark_inputs.new.due c.mark_moves.new.waiting.due step.within c.requires.due c.mark_inputs.ensures.more c.mark_inputs.ensures.inputs c.mark_moves.ensures.more c.mark_moves.ensures.due

pub returns-clause-due : goal.returns-clause-due
returns-clause-due g c =
    let step = c.args.step.now in
    let j = job_in step.circuit.now in
    let values = g.S.Source.reads c.args.values.now in
    let test = c.if-step-eq0.false in
    let later : 0 < step.number = omega (arith, test) in
    let P : List ℕ → Type 0 = λ due. AreAwaited (job_in step.circuit.now) (g.S.Source.reads c.args.values.now) (step.number + 1) due in
    subst P (sym c.turn.ensures.due) (awaited_next j step.circuit.now.fits.fits_job values step.number c.mark_moves.new.waiting.ahead later c.mark_moves.ensures.ahead)
