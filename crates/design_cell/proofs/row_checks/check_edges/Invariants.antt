-- The loop of `check_edges`.
use Rattle.std.proofs.Common.{◌≡◌, ◌<◌, ℕ, true}
use Rattle.design_cell.specs.Row.{row_at}
use Rattle.design_cell.specs.Refusal.{has_one_edge}
use Rattle.design_cell.proofs.row_checks.check_edges.Given as goal

abbrev pub invariant-loop-i : goal.invariant-loop-i
invariant-loop-i l = (k : ℕ) → k < l.i → has_one_edge (row_at l.rows k) ≡ true
