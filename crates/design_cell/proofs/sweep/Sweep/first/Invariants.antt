-- The loop of `first`.
use Rattle.std.proofs.Common.{◌-◌, length}
use Rattle.design_cell.specs.Seen.{IsSwept}
use Rattle.design_cell.proofs.sweep.Sweep.first.Given as goal

abbrev pub invariant-loop-back : goal.invariant-loop-back
invariant-loop-back l = IsSwept l.inputs l.self l.rows (length l.rows - l.back) l.seen l.first
