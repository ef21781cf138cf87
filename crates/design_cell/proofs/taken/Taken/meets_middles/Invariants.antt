-- The loop of `meets_middles`.
use Rattle.std.proofs.Common.{◌≡◌}
use Rattle.design_cell.specs.Below.{any_below}
use Rattle.design_cell.specs.Marks.{meets_middle}
use Rattle.design_cell.proofs.taken.Taken.meets_middles.Given as goal

abbrev pub invariant-loop-middle : goal.invariant-loop-middle
invariant-loop-middle l = l.any ≡ any_below l.middle (meets_middle l.self l.seen l.high)
