-- The loop of `first_in_conflict`.
use Rattle.std.proofs.Common.{◌≡◌, length}
use Rattle.design_cell.specs.Sweep.{Differ, FirstIn}
use Rattle.design_cell.proofs.conflict.first_in_conflict.Given as goal

abbrev pub invariant-loop-number : goal.invariant-loop-number
invariant-loop-number l = record {
  room : length l.seen ≡ 6561;
  first_ : FirstIn (Differ l.inputs l.rows l.number) 0 (length l.rows) l.first;
}
