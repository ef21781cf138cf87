-- A net that isn't written shows what it showed.
use Rattle.std.proofs.Common.{subst}
use Rattle.design_circuit.specs.History.{HistoryView}
use Rattle.design_circuit.specs.Row.{AreWritten}
use Rattle.report_bits.specs.Finished.{IsStillAt}
use Rattle.report_bits.proofs.BitLines.{shown_kept, shown_still}
use Rattle.report_bits.proofs.rounds.mark_written.Goals as goal

pub returns-in-Some-clause-shown : goal.returns-in-Some-clause-shown
returns-in-Some-clause-shown c = λ yes.
    (let wave = c.args.wave.now in
    let written = subst (λ (h : HistoryView). AreWritten h c.args.step c.in-Some.changes.now) c.replayed.ensures
    c.in-Some.ensures.some in
    shown_kept wave c.args.bits.now c.args.step c.in-Some.changes.now c.mark_changes.new.due
    c.recall.ensures c.requires.bits c.requires.step written c.mark_changes.ensures.marked)

pub returns-in-None-clause-shown : goal.returns-in-None-clause-shown
returns-in-None-clause-shown c = λ yes.
    shown_still c.args.wave.now c.args.bits.now c.args.step c.args.due.now c.recall.ensures
    c.requires.bits c.requires.step
    (subst (λ (h : HistoryView). IsStillAt h c.args.step) c.replayed-in-None.ensures (c.is_still.ensures yes))
