-- The loop of `make_blocks`.
use Rattle.std.proofs.Common.{◌≡◌, ◌<◌, ◌*◌, ℕ, length, slice_index_or}
use Rattle.design_cell.specs.Index.{IsBlock, no_block}
use Rattle.design_cell.proofs.index.make_blocks.Given as goal

abbrev pub invariant-loop-j : goal.invariant-loop-j
invariant-loop-j l = record {
  long : length l.blocks.items ≡ l.j;
  each : (k : ℕ) → k < l.j → IsBlock l.rows (64 * k) (slice_index_or l.blocks.items k no_block);
}
