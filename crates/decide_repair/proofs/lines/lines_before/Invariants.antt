-- The bounds come closer, and stay within the lines.
use Rattle.std.proofs.Common.{◌-◌, ◌≤◌, length}
use Rattle.decide_repair.proofs.lines.lines_before.Given as goal

abbrev pub invariant-halves : goal.invariant-halves
invariant-halves l = (l.low ≤ l.high) × (l.high ≤ length l.wave.lines)

abbrev pub decreases-halves : goal.decreases-halves
decreases-halves l = l.high - l.low
