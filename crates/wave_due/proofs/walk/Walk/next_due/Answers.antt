-- Of the positions up to the next one that is due none is.
use Rattle.std.proofs.Common.{ap, subst, arith}
use Rattle.design_circuit.specs.Job.{Job}
use Rattle.design_circuit.specs.Fits.{Fits}
use Rattle.replay_due.specs.Due.{NoneBetween}
use Rattle.wave_bytes.specs.View as view
use Rattle.wave_due.proofs.Skips.{due_run}
use Rattle.wave_due.proofs.walk.Walk.next_due.Goals as goal

pub returns-then-next-width-clause-run : goal.returns-then-next-width-clause-run
returns-then-next-width-clause-run c = λ many whole.
    (let v = c.args.waveform.now in
    let walk = c.args.self.now in
    let test = c.if-next-width.true in
    let count = c.width_of-width.ensures in
    let wide = ap (λ (j : Job). j.width) c.circuit.ensures.job in
    let none = subst (λ n. NoneBetween walk.waiting.due n c.first_from-next.result) c.position_behind.ensures
    c.first_from-next.ensures.none in
    due_run (view.job v) (subst Fits c.circuit.ensures.job c.circuit.result.fits.fits_job) v.written walk
    c.first_from-next.result c.first_from-next.result many c.requires.walk c.requires.next none (omega arith)
    (omega (arith, test, count, wide)) whole)

pub returns-else-next-width-clause-run : goal.returns-else-next-width-clause-run
returns-else-next-width-clause-run c = λ many whole.
    (let v = c.args.waveform.now in
    let walk = c.args.self.now in
    let test = c.if-next-width.false in
    let count = c.width_of-width.ensures in
    let wide = ap (λ (j : Job). j.width) c.circuit.ensures.job in
    let none = subst (λ n. NoneBetween walk.waiting.due n c.first_from-next.result) c.position_behind.ensures
    c.first_from-next.ensures.none in
    due_run (view.job v) (subst Fits c.circuit.ensures.job c.circuit.result.fits.fits_job) v.written walk
    c.first_from-next.result c.width_of-width.result many c.requires.walk c.requires.next none (omega (arith, test))
    (omega (arith, count, wide)) whole)
