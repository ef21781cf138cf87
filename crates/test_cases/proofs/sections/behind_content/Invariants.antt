-- The lines kept are some of those left.
use Rattle.std.proofs.Common.{◌≤◌}
use Rattle.test_cases.specs.Left.{lines_left}
use Rattle.test_cases.proofs.sections.behind_content.Given as goal

abbrev pub invariant-lines : goal.invariant-lines
invariant-lines l = (lines_left l.kept ≤ lines_left l.fn.lines) × (lines_left l.behind ≤ lines_left l.fn.lines)

abbrev pub decreases-lines : goal.decreases-lines
decreases-lines l = lines_left l.behind
