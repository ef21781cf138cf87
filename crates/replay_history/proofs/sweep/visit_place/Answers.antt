-- A place more is gone over: where its net moves its readers are due.
use Rattle.std.proofs.Common.{ℕ, subst}
use Rattle.design_circuit.specs.Order.{arguments_of_driver}
use Rattle.replay_fans.specs.Nets.{looked_at}
use Rattle.replay_history.specs.Going.{forced_in, job_at}
use Rattle.replay_history.proofs.Sweeps.{AreMarked, ahead_marked, ahead_still, are_marked, due_marked, due_still, swept_computed}
use Rattle.replay_history.proofs.sweep.visit_place.Goals as goal

pub returns-then-stays_at-clause-swept : goal.returns-then-stays_at-clause-swept
returns-then-stays_at-clause-swept c =
    let j = job_at c.args.step.now in
    swept_computed j (forced_in c.args.step.now) c.args.step.now.number c.args.position c.args.writer.now.history c.compute_place.new.writer.history c.in_ok-compute_place.ensures.filled c.in_ok-compute_place.ensures.others c.requires.swept

pub returns-then-stays_at-clause-due : goal.returns-then-stays_at-clause-due
returns-then-stays_at-clause-due c =
    let j = job_at c.args.step.now in
    due_still j c.args.step.now.circuit.now.fits.fits_job (forced_in c.args.step.now) c.args.step.now.number c.args.position c.args.waiting.now.due (c.stays_at.ensures.still c.if-stays_at.true) c.requires.due

pub returns-then-stays_at-clause-ahead : goal.returns-then-stays_at-clause-ahead
returns-then-stays_at-clause-ahead c =
    let j = job_at c.args.step.now in
    ahead_still j c.args.step.now.circuit.now.fits.fits_job (forced_in c.args.step.now) c.args.step.now.number c.args.position c.args.waiting.now.ahead (c.stays_at.ensures.still c.if-stays_at.true) c.requires.ahead

pub returns-clause-swept : goal.returns-clause-swept
returns-clause-swept c =
    let j = job_at c.args.step.now in
    swept_computed j (forced_in c.args.step.now) c.args.step.now.number c.args.position c.args.writer.now.history c.compute_place.new.writer.history c.in_ok-compute_place.ensures.filled c.in_ok-compute_place.ensures.others c.requires.swept

pub returns-clause-due : goal.returns-clause-due
returns-clause-due c =
    let j = job_at c.args.step.now in
    let P : ℕ → Type 0 = λ net. AreMarked (job_at c.args.step.now) arguments_of_driver net c.args.waiting.now.due c.mark_readers.new.waiting.due in
    let marked = are_marked j arguments_of_driver c.args.fans.now.cells c.net-net.result c.args.waiting.now.due c.mark_readers.new.waiting.due c.requires.fans.cells c.requires.due.room c.mark_readers.ensures.due_long c.mark_readers.ensures.due in
    due_marked j c.args.step.now.circuit.now.fits.fits_job (forced_in c.args.step.now) c.args.step.now.number c.args.position c.args.waiting.now.due c.mark_readers.new.waiting.due (subst P c.net-net.ensures marked) c.requires.due

pub returns-clause-ahead : goal.returns-clause-ahead
returns-clause-ahead c =
    let j = job_at c.args.step.now in
    let P : ℕ → Type 0 = λ net. AreMarked (job_at c.args.step.now) looked_at net c.args.waiting.now.ahead c.mark_readers.new.waiting.ahead in
    let marked = are_marked j looked_at c.args.fans.now.registers c.net-net.result c.args.waiting.now.ahead c.mark_readers.new.waiting.ahead c.requires.fans.registers c.requires.ahead.room c.mark_readers.ensures.ahead_long c.mark_readers.ensures.ahead in
    ahead_marked j c.args.step.now.circuit.now.fits.fits_job (forced_in c.args.step.now) c.args.step.now.number c.args.position c.args.waiting.now.ahead c.mark_readers.new.waiting.ahead (subst P c.net-net.ensures marked) c.requires.ahead
