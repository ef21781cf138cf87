-- The changes so far are written.
use Rattle.std.proofs.Common.{◌≡◌, take}
use Rattle.base_ledger.specs.Ledger.{row_with}
use Rattle.design_circuit.proofs.row.write.Given as goal

abbrev pub invariant-changes : goal.invariant-changes
invariant-changes l = l.row ≡ row_with l.initial.row (take l.change-index l.changes)
