-- Each round is marked.
use Rattle.std.proofs.Common.{◌≡◌, ◌∙◌, true, refl, rules, arith}
use Rattle.recording_writer.proofs.Marks.{round_step, rounds_all, rounds_more}
use Rattle.replay_history.proofs.Watching.{first_later}
use Rattle.recording_writer.proofs.marked.mark_rounds.Goals as goal

pub last_round-requires-clause-small : goal.last_round-requires-clause-small
last_round-requires-clause-small g c = (c.requires.moments.last c.args.moment c.requires.moment).small

pub rounds-init : goal.rounds-init
rounds-init g c = record { long = refl; more = λ position was. was; kept = λ r less. absurd (omega (arith, less)) }

pub mark_written-requires-clause-later : goal.mark_written-requires-clause-later
mark_written-requires-clause-later g c =
    let some = c.args.stim.now.some_round in
    let later = first_later c.args.stim.now.rounds c.args.moment some c.requires.later in
    let last = c.last_round.ensures in
    omega (arith, some, later, last)

pub mark_written-requires-clause-step : goal.mark_written-requires-clause-step
mark_written-requires-clause-step g c =
    let some = c.args.stim.now.some_round in
    let last = c.last_round.ensures in
    let test = c.rounds-test.true in
    round_step (g.R.Shown.view c.args.row.now).history _ c.args.stim.now.rounds c.args.moment _ c.rounds.round c.requires.moments some c.requires.moment (omega (arith, last)) (omega (arith, test))

pub rounds-preserved : goal.rounds-preserved
rounds-preserved g c =
    let marked : c.mark_written.result ≡ true = search rules in
    record {
      long = c.mark_written.ensures.long ∙ c.rounds.invariant.long;
      more = λ position was. c.mark_written.ensures.more position (c.rounds.invariant.more position was);
      kept = rounds_more (g.R.Shown.view c.args.row.now).history c.args.readers.now.table _ c.rounds.round c.rounds.due c.mark_written.new.due c.mark_written.ensures.more c.rounds.invariant.kept (c.mark_written.ensures.kept marked);
    }

pub returns-clause-kept : goal.returns-clause-kept
returns-clause-kept g c = λ yes.
    (let last = c.last_round.ensures in
    let test = c.rounds-test.false in
    let end = c.rounds.auto.round-end in
    rounds_all (g.R.Shown.view c.args.row.now).history c.args.readers.now.table c.args.stim.now.rounds c.args.moment _ c.rounds.due c.args.stim.now.some_round c.requires.later (omega (arith, last)) (λ r less. c.rounds.invariant.kept r (omega (arith, less, test, end))))
