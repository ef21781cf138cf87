-- The history is still.
use Rattle.std.proofs.Common.{subst}
use Rattle.design_circuit.specs.History.{HistoryView}
use Rattle.report_bits.specs.Finished.{IsStillAt}
use Rattle.report_bits.proofs.Changing.{still_shown}
use Rattle.report_bits.proofs.ends.Ends.put_blank.Goals as goal

pub returns-else-not-is_still-clause-shown : goal.returns-else-not-is_still-clause-shown
returns-else-not-is_still-clause-shown c =
    still_shown c.args.wave.now c.recall.ensures c.args.step c.args.self.now.ends.items c.requires.whole
    (subst (λ (h : HistoryView). IsStillAt h c.args.step) c.replayed.ensures
    (c.is_still.ensures c.if-not-is_still.false))
