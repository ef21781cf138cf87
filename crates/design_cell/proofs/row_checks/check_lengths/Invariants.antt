-- The loop of `check_lengths`.
use Rattle.std.proofs.Common.{◌≡◌, ◌<◌, ℕ, true}
use Rattle.design_cell.specs.Row.{row_at}
use Rattle.design_cell.specs.Refusal.{has_length}
use Rattle.design_cell.proofs.row_checks.check_lengths.Given as goal

abbrev pub invariant-loop-i : goal.invariant-loop-i
invariant-loop-i l = (k : ℕ) → k < l.i → (has_length l.sequential l.inputs) (row_at l.rows k) ≡ true
