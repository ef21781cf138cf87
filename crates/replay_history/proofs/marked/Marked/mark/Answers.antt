-- What isn't written or recorded is as it was.
use Rattle.std.proofs.Common.{◌≡◌, ◌<◌, ◌-◌, true, rules, arith, ℕ, subst, sym}
use Rattle.design_circuit.specs.Settled.{last_step}
use Rattle.replay_due.specs.Readers.{IsReaderTable}
use Rattle.replay_history.specs.Sides.{job_beside}
use Rattle.replay_history.specs.Watched.{ShowSame}
use Rattle.replay_history.proofs.Compares.{last_within}
use Rattle.replay_history.proofs.Watching.{at_rest, first_later, same_kept}
use Rattle.replay_history.proofs.marked.Marked.mark.Goals as goal

pub mark_written-requires-clause-table : goal.mark_written-requires-clause-table
mark_written-requires-clause-table c =
    let P : ℕ → Type 0 = λ n. IsReaderTable n c.args.watchers.now.registers in
    subst P (sym c.width_of-nets.ensures) c.requires.watchers.registers.table

pub mark_written-requires-clause-later : goal.mark_written-requires-clause-later
mark_written-requires-clause-later c =
    let j = job_beside c.args.sides.now in
    let some = c.args.sides.now.circuit.fits.fits_job.some_round in
    let later = first_later j.rounds c.args.moment some c.requires.later in
    let last = c.last_step_of-last.ensures in
    omega (arith, some, later, last)

pub mark_written-requires-clause-step : goal.mark_written-requires-clause-step
mark_written-requires-clause-step c =
    let j = job_beside c.args.sides.now in
    let fits = c.args.sides.now.circuit.fits.fits_job in
    let less = last_within j fits c.args.moment c.requires.moment in
    let last = c.last_step_of-last.ensures in
    omega (arith, less, last)

pub returns-clause-rest : goal.returns-clause-rest
returns-clause-rest c = λ yes.
    (let j = job_beside c.args.sides.now in
    let marked : c.mark_written.result ≡ true = search rules in
    let some = c.args.sides.now.circuit.fits.fits_job.some_round in
    let more = first_later j.rounds c.args.moment some c.requires.later in
    let later : 0 < last_step (job_beside c.args.sides.now) c.args.moment = omega (arith, some, more) in
    let P : ℕ → Type 0 = λ n. ShowSame c.args.sides.now c.args.watchers.now.registers (n - 1) n c.mark_written.new.due in
    at_rest c.args.sides.now c.requires.sides c.args.watchers.now.registers c.args.moment c.mark_written.new.due later c.requires.moment c.requires.watchers.registers (subst P c.last_step_of-last.ensures (c.mark_written.ensures.same marked)))

pub returns-clause-shown : goal.returns-clause-shown
returns-clause-shown c = λ yes.
    (let j = job_beside c.args.sides.now in
    let marked : c.mark_shown.result ≡ true = search rules in
    same_kept c.args.sides.now c.requires.sides c.args.watchers.now.variables (last_step j (c.args.moment - 1)) (last_step j c.args.moment) c.mark_shown.new.due c.mark_recorded.new.due c.mark_recorded.ensures.more (c.mark_shown.ensures.same marked))
