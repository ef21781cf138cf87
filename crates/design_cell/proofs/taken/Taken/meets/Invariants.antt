-- The loop of `meets`.
use Rattle.std.proofs.Common.{◌≡◌}
use Rattle.design_cell.specs.Below.{any_below}
use Rattle.design_cell.specs.Marks.{meets_high}
use Rattle.design_cell.proofs.taken.Taken.meets.Given as goal

abbrev pub invariant-loop-high : goal.invariant-loop-high
invariant-loop-high l = l.any ≡ any_below l.high (meets_high l.self l.seen)
