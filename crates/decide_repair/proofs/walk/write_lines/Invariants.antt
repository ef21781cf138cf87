-- The wave goes on in its job, and stops before Line places.
use Rattle.decide_repair.proofs.Pieces.{IsOnWay}
use Rattle.decide_repair.proofs.walk.write_lines.Given as goal

abbrev pub invariant-lines : goal.invariant-lines
invariant-lines l = IsOnWay l.fn.wave l.written l.aids l.all l.lines l.left

abbrev pub decreases-lines : goal.decreases-lines
decreases-lines l = l.left
