-- The loop of `digits`.
use Rattle.std.proofs.Common.{◌≡◌, ◌<◌, ◌/◌, ◌%◌, ℕ, false, length, slice_index_or}
use Rattle.design_cell.specs.Sweep.{accepts}
use Rattle.design_cell.proofs.sweep.Sweep.digits.Given as goal

abbrev pub invariant-loop-k : goal.invariant-loop-k
invariant-loop-k l = record {
  long : length l.digits ≡ 30;
  taken : (i : ℕ) → i < l.k → slice_index_or l.digits i false ≡ accepts l.inputs l.self l.row (i / 3) (i % 3);
}
