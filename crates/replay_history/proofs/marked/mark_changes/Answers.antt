-- One change more.
use Rattle.std.proofs.Common.{◌≡◌, ◌∙◌, ◌<◌, ℕ, arith, subst}
use Rattle.base_ledger.specs.Change.{change_position, nth_change}
use Rattle.replay_due.specs.Readers.{readers_of}
use Rattle.replay_history.specs.Watched.{AreReadersDue}
use Rattle.replay_history.proofs.Watching.{due_more, gains_due, gains_more}
use Rattle.replay_history.proofs.marked.mark_changes.Goals as goal

pub changes-preserved : goal.changes-preserved
changes-preserved c =
    let net = c.position.result in
    let xs = readers_of c.args.readers.now net in
    let is : net ≡ change_position (nth_change c.args.changes.now c.changes.change-index) = c.position.ensures in
    let more = gains_more c.changes.due c.mark_all.new.due xs c.mark_all.ensures.gains in
    let P : ℕ → Type 0 = λ n. AreReadersDue c.args.readers.now n c.mark_all.new.due in
    record {
      long = c.mark_all.ensures.long ∙ c.changes.invariant.long;
      more = λ position was. more position (c.changes.invariant.more position was);
      marked = due_more c.args.readers.now c.args.changes.now c.changes.change-index c.changes.due c.mark_all.new.due more (subst P is (λ reader has. gains_due c.changes.due c.mark_all.new.due xs reader c.mark_all.ensures.gains has)) c.changes.invariant.marked;
    }

pub returns-clause-marked : goal.returns-clause-marked
returns-clause-marked c = λ i less.
    (let test = c.changes-test.false in
    let end = c.changes.auto.change-index-end in
    c.changes.invariant.marked i (omega (arith, less, test, end)))
