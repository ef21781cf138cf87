-- The loop of `output_word`.
use Rattle.std.proofs.Common.{◌≡◌, ◌<◌, ◌≤◌, ◌+◌, ◌==◌, ℕ}
use Rattle.std.specs.Int.{bit_at}
use Rattle.design_cell.specs.Symbol.{output_of}
use Rattle.design_cell.specs.Row.{row_at}
use Rattle.design_cell.specs.Index.{code, flag}
use Rattle.design_cell.proofs.index.output_word.Given as goal

abbrev pub invariant-loop-i : goal.invariant-loop-i
invariant-loop-i l = record {
  done : (k : ℕ) → k < l.i → bit_at l.word k ≡ flag (code (output_of (row_at l.rows (l.base + k)).output l.q) == l.want);
  open_ : (k : ℕ) → l.i ≤ k → bit_at l.word k ≡ 0;
}
