-- The loop of `check_symbols`.
use Rattle.std.proofs.Common.{◌≡◌, ◌<◌, ℕ, true}
use Rattle.design_cell.specs.Row.{row_at}
use Rattle.design_cell.specs.Refusal.{has_symbols}
use Rattle.design_cell.proofs.row_checks.check_symbols.Given as goal

abbrev pub invariant-loop-i : goal.invariant-loop-i
invariant-loop-i l = (k : ℕ) → k < l.i → (has_symbols l.sequential) (row_at l.rows k) ≡ true
