-- The loop of `cell_words`.
use Rattle.std.proofs.Common.{◌≡◌, ◌<◌, ℕ, slice_index, length}
use Rattle.design_cell.specs.Index.{IsCell}
use Rattle.design_cell.proofs.index.cell_words.Given as goal

abbrev pub invariant-loop-p : goal.invariant-loop-p
invariant-loop-p l = record {
  room : length l.words ≡ 99;
  done : (k : ℕ) → k < l.p → IsCell l.rows l.base k (slice_index l.words k);
}
