-- The loop of `edge_word`.
use Rattle.std.proofs.Common.{◌≡◌, ◌<◌, ◌≤◌, ◌+◌, ℕ}
use Rattle.std.specs.Int.{bit_at}
use Rattle.design_cell.specs.Row.{is_edge_row, row_at}
use Rattle.design_cell.specs.Index.{flag}
use Rattle.design_cell.proofs.index.edge_word.Given as goal

abbrev pub invariant-loop-i : goal.invariant-loop-i
invariant-loop-i l = record {
  done : (k : ℕ) → k < l.i → bit_at l.word k ≡ flag (is_edge_row (row_at l.rows (l.base + k)));
  open_ : (k : ℕ) → l.i ≤ k → bit_at l.word k ≡ 0;
}
