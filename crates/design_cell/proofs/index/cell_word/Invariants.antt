-- The loop of `cell_word`.
use Rattle.std.proofs.Common.{◌≡◌, ◌<◌, ◌≤◌, ◌+◌, ℕ}
use Rattle.std.specs.Int.{bit_at}
use Rattle.design_cell.specs.Symbol.{fits}
use Rattle.design_cell.specs.Row.{symbol_at, row_at}
use Rattle.design_cell.specs.Index.{flag}
use Rattle.design_cell.proofs.index.cell_word.Given as goal

abbrev pub invariant-loop-i : goal.invariant-loop-i
invariant-loop-i l = record {
  done : (k : ℕ) → k < l.i → bit_at l.word k ≡ flag (fits (symbol_at (row_at l.rows (l.base + k)) l.c) l.old l.new);
  open_ : (k : ℕ) → l.i ≤ k → bit_at l.word k ≡ 0;
}
