-- The changes of the step are written into the bytes.
use Rattle.std.proofs.Common.{◌∙◌, List, ℕ, ap, arith, drop, length}
use Rattle.base_ledger.specs.Ledger.{row_with}
use Rattle.design_circuit.proofs.RowLemmas.{next_bytes}
use Rattle.design_circuit.proofs.row.HistoryRow.next_step.Goals as goal

pub invariant_of-self : goal.invariant_of-self
invariant_of-self c =
    let written = c.write.auto.row in
    let long = c.as_mut_slice.ensures.len in
    next_bytes c.self.inside.history.now c.self.inside.step c.self.inside.bytes.len c.self.inside.bytes.items c.write.new.row (drop (length c.write.new.row) c.self.inside.bytes.items) c.in-Some.changes.now c.in-Some.ensures.some c.self.invariant
    (c.write.ensures ∙ ap (λ (row : List ℕ). row_with row c.in-Some.changes.now) c.as_mut_slice.ensures.value) (omega (arith, written, long))
