-- All events up to the step are taken.
use Rattle.std.proofs.Common.{◌∙◌, sym, length, arith}
use Rattle.replay_history.specs.Forced.{event_at}
use Rattle.replay_history.proofs.Forces.{all_taken, elsewhere_more, taken_more}
use Rattle.replay_history.proofs.forced.take_events.Goals as goal

pub returns-clause-forced : goal.returns-clause-forced
returns-clause-forced c = all_taken (length c.args.values.now) c.args.events.now c.args.step c.events.next c.events.values c.requires.ordered (sym c.comes_up_to.ensures ∙ c.events-test.false) c.events.invariant.taken

pub events-preserved : goal.events-preserved
events-preserved c =
    let grows = c.events.invariant.grows in
    record {
      taken = taken_more (length c.args.values.now) c.args.events.now c.args.step c.events.next c.events.values c.requires.ordered (sym c.comes_up_to.ensures ∙ c.events-test.true) c.events.invariant.taken;
      grows = omega (arith, grows);
      elsewhere = elsewhere_more c.args.events.now c.args.taken c.events.next c.args.values.now c.events.values (event_at c.args.events.now c.events.next).value grows c.events.invariant.elsewhere;
    }
