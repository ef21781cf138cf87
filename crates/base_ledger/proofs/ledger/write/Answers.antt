-- One change more is written.
use Rattle.std.proofs.Common.{◌∙◌, List, ℕ, set, sym, ap}
use Rattle.base_ledger.specs.Change.{nth_change, change_payload, change_position}
use Rattle.base_ledger.proofs.Rows.{written_more}
use Rattle.base_ledger.proofs.ledger.write.Goals as goal

pub changes-preserved : goal.changes-preserved
changes-preserved c =
    let more = written_more c.args.row.now c.args.changes.now c.changes.change-index c.changes-test.true in
    rw (c.position.ensures, c.payload.ensures) (ap (λ (r : List ℕ). set r (change_position (nth_change c.args.changes.now c.changes.change-index)) (change_payload (nth_change c.args.changes.now c.changes.change-index))) c.changes.invariant ∙ sym more)
