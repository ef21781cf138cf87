-- The loop of `mark_middles`.
use Rattle.std.proofs.Common.{◌≡◌, length}
use Rattle.design_cell.specs.Below.{any_below}
use Rattle.design_cell.specs.Digits.{Marks}
use Rattle.design_cell.specs.Marks.{covers_middle}
use Rattle.design_cell.proofs.taken.Taken.mark_middles.Given as goal

abbrev pub invariant-loop-middle : goal.invariant-loop-middle
invariant-loop-middle l = record {
  room : length l.seen ≡ 6561;
  marks : Marks l.initial.seen l.seen (λ p. any_below l.middle (covers_middle l.self p l.high)) l.self.low;
}
