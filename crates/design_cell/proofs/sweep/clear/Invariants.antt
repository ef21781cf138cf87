-- The loop of `clear`.
use Rattle.std.proofs.Common.{◌≡◌, ◌<◌, ℕ, length, slice_index}
use Rattle.design_cell.proofs.sweep.clear.Given as goal

abbrev pub invariant-loop-k : goal.invariant-loop-k
invariant-loop-k l = record {
  room : length l.seen ≡ length l.initial.seen;
  done : (i : ℕ) → i < l.k → slice_index l.seen i ≡ 0;
}
