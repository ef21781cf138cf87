-- The loop of `mark`.
use Rattle.std.proofs.Common.{◌≡◌, length}
use Rattle.design_cell.specs.Below.{any_below}
use Rattle.design_cell.specs.Digits.{Marks}
use Rattle.design_cell.specs.Marks.{covers_high}
use Rattle.design_cell.proofs.taken.Taken.mark.Given as goal

abbrev pub invariant-loop-high : goal.invariant-loop-high
invariant-loop-high l = record {
  room : length l.seen ≡ 6561;
  marks : Marks l.initial.seen l.seen (λ p. any_below l.high (covers_high l.self p)) l.self.low;
}
