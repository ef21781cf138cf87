-- The step is repeated, what differs is due, and gone over.
use Rattle.std.proofs.Common.{◌+◌, arith, subst, sym, List, ℕ}
use Rattle.replay_history.specs.Going.{forced_in, job_at}
use Rattle.replay_history.specs.Sweep.{AreAwaited}
use Rattle.replay_history.proofs.Marking.{due_marked_first}
use Rattle.replay_history.proofs.Sweeps.{ahead_first, awaited_next, filled_next, swept_none}
use Rattle.replay_history.proofs.steps.later_step.Goals as goal

pub mark_events-requires-clause-room : goal.mark_events-requires-clause-room
mark_events-requires-clause-room c = c.requires.due.room

pub mark_inputs-requires-clause-room : goal.mark_inputs-requires-clause-room
mark_inputs-requires-clause-room c =
    let room = c.requires.due.room in
    let long = c.mark_events.ensures.long in
    omega (arith, room, long)

pub sweep-requires-clause-under_way : goal.sweep-requires-clause-under_way
sweep-requires-clause-under_way c =
    let next = c.in_ok-next_step.ensures.ok.step in
    let under_way = c.requires.under_way in
    let later = c.requires.later in
    omega (arith, next, under_way, later)

pub sweep-requires-clause-swept : goal.sweep-requires-clause-swept
sweep-requires-clause-swept c =
    let j = job_at c.args.step.now in
    let under_way = c.requires.under_way in
    let later = c.requires.later in
    swept_none j c.args.step.now.circuit.now.fits.fits_job (forced_in c.args.step.now) c.args.step.now.number c.args.writer.now c.next_step.new.self c.args.step.now.fits.within (omega (arith, under_way, later)) c.requires.filled c.in_ok-next_step.ensures.ok

pub sweep-requires-clause-due : goal.sweep-requires-clause-due
sweep-requires-clause-due c =
    let j = job_at c.args.step.now in
    due_marked_first j c.args.step.now.circuit.now.fits.fits_job (forced_in c.args.step.now) c.args.step.now.events.now c.args.step.now.number c.args.step.now.from c.args.step.now.to c.args.waiting.now.due c.mark_events.new.due c.mark_inputs.new.due c.mark_events.ensures.long c.mark_inputs.ensures.long c.mark_events.ensures.more c.mark_inputs.ensures.more c.mark_events.ensures.events c.mark_inputs.ensures.inputs (c.args.step.now.fits.before c.requires.later) c.requires.due

pub sweep-requires-clause-ahead : goal.sweep-requires-clause-ahead
sweep-requires-clause-ahead c =
    let j = job_at c.args.step.now in
    ahead_first j (forced_in c.args.step.now) c.args.step.now.number c.args.waiting.now.ahead c.requires.ahead

pub returns-clause-filled : goal.returns-clause-filled
returns-clause-filled c =
    let j = job_at c.args.step.now in
    filled_next j (forced_in c.args.step.now) c.args.step.now.number c.sweep.new.writer.history c.in_ok-sweep.ensures.swept

pub returns-clause-due : goal.returns-clause-due
returns-clause-due c =
    let j = job_at c.args.step.now in
    let P = λ (due : List ℕ). AreAwaited (job_at c.args.step.now) (forced_in c.args.step.now) (c.args.step.now.number + 1) due in
    subst P (sym c.turn.ensures.due) (awaited_next j c.args.step.now.circuit.now.fits.fits_job (forced_in c.args.step.now) c.args.step.now.number c.sweep.new.waiting.ahead c.requires.later c.in_ok-sweep.ensures.ahead)

pub returns-clause-ahead : goal.returns-clause-ahead
returns-clause-ahead c =
    let room = c.in_ok-sweep.ensures.due in
    let long = c.turn.ensures.ahead in
    omega (arith, room, long)
