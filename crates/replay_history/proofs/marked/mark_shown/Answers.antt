-- Each round is marked.
use Rattle.std.proofs.Common.{◌≡◌, ◌<◌, ◌∙◌, true, refl, rules, arith}
use Rattle.replay_history.specs.Sides.{job_beside}
use Rattle.replay_history.proofs.Compares.{last_within}
use Rattle.replay_history.proofs.Watching.{first_later, rounds_all, rounds_more, rounds_none}
use Rattle.replay_history.proofs.marked.mark_shown.Goals as goal

pub rounds-init : goal.rounds-init
rounds-init c = record {
  long = refl;
  same = rounds_none c.args.sides.now c.requires.sides c.args.watchers.now.variables _ c.args.due.now;
}

pub mark_written-requires-clause-later : goal.mark_written-requires-clause-later
mark_written-requires-clause-later c =
    let j = job_beside c.args.sides.now in
    let some = c.args.sides.now.circuit.fits.fits_job.some_round in
    let later = first_later j.rounds c.args.moment some c.requires.later in
    let last = c.last_step_of.ensures in
    omega (arith, some, later, last)

pub mark_written-requires-clause-step : goal.mark_written-requires-clause-step
mark_written-requires-clause-step c =
    let j = job_beside c.args.sides.now in
    let fits = c.args.sides.now.circuit.fits.fits_job in
    let some = fits.some_round in
    let less = last_within j fits c.args.moment c.requires.moment in
    let last = c.last_step_of.ensures in
    let test = c.rounds-test.true in
    omega (arith, some, less, last, test)

pub rounds-preserved : goal.rounds-preserved
rounds-preserved c =
    let marked : c.mark_written.result ≡ true = search rules in
    record {
      long = c.mark_written.ensures.long ∙ c.rounds.invariant.long;
      same = rounds_more c.args.sides.now c.requires.sides c.args.watchers.now.variables _ c.rounds.round c.rounds.due c.mark_written.new.due c.mark_written.ensures.more c.rounds.invariant.same (c.mark_written.ensures.same marked);
    }

pub returns-clause-same : goal.returns-clause-same
returns-clause-same c = λ yes.
    (let last = c.last_step_of.ensures in
    let test = c.rounds-test.false in
    let end = c.rounds.auto.round-end in
    rounds_all c.args.sides.now c.requires.sides c.args.watchers.now.variables c.args.moment _ c.rounds.round c.rounds.due c.requires.later (omega (arith, last)) (omega (arith, test, end)) c.rounds.invariant.same)
