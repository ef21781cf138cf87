-- A net that isn't written has the letter that it had.
use Rattle.std.proofs.Common.{arith, subst}
use Rattle.design_circuit.specs.History.{HistoryView}
use Rattle.design_circuit.specs.Row.{AreWritten}
use Rattle.recording_writer.proofs.Marks.{written_kept}
use Rattle.recording_writer.proofs.shown.HistoryRowShown.mark_written.Goals as goal

pub mark_changes-requires-clause-within : goal.mark_changes-requires-clause-within
mark_changes-requires-clause-within c = λ i less.
    (let P : HistoryView → Type 0 = λ history. AreWritten history c.args.step c.in-Some.changes.now in
    let low = (subst P c.history.ensures c.in-Some.ensures.some).inside i less in
    let room = c.requires.readers.inside in
    omega (arith, low, room))

pub returns-in-Some-clause-kept : goal.returns-in-Some-clause-kept
returns-in-Some-clause-kept c = λ yes.
    (let P : HistoryView → Type 0 = λ history. AreWritten history c.args.step c.in-Some.changes.now in
    written_kept c.args.self.now.history c.args.readers.now.table c.args.step c.in-Some.changes.now c.mark_changes.new.due
    c.requires.step (subst P c.history.ensures c.in-Some.ensures.some) c.mark_changes.ensures.marked)
