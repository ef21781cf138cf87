-- The loop of `output_words`.
use Rattle.std.proofs.Common.{◌≡◌, ◌<◌, ℕ, slice_index, length}
use Rattle.design_cell.specs.Index.{IsOutputCell}
use Rattle.design_cell.proofs.index.output_words.Given as goal

abbrev pub invariant-loop-p : goal.invariant-loop-p
invariant-loop-p l = record {
  room : length l.words ≡ 9;
  done : (k : ℕ) → k < l.p → IsOutputCell l.rows l.base k (slice_index l.words k);
}
