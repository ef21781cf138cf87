-- The loop of `taken_pairs`.
use Rattle.std.proofs.Common.{◌≡◌, ◌<◌, ◌/◌, ◌%◌, ℕ, false, length, slice_index_or}
use Rattle.design_cell.specs.Row.{symbol_at}
use Rattle.design_cell.specs.Meeting.{takes}
use Rattle.design_cell.proofs.probe.taken_pairs.Given as goal

abbrev pub invariant-loop-p : goal.invariant-loop-p
invariant-loop-p l = record {
  long : length l.pairs ≡ 90;
  taken : (k : ℕ) → k < l.p → slice_index_or l.pairs k false ≡ takes (symbol_at l.row (k / 9)) (k % 9);
}
