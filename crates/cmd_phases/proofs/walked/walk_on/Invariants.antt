-- The walk is the one that it began as, fewer places are left, and the sink is as it was.
use Rattle.std.proofs.Common.{◌≡◌}
use Rattle.decide_repair.specs.Walk.{left_of}
use Rattle.cmd_phases.proofs.walked.walk_on.Given as goal

abbrev pub invariant-pieces : goal.invariant-pieces
invariant-pieces g l = record { start : l.walked.start ≡ l.fn.walk.start; out : g.O.Sink.view l.out ≡ g.O.Sink.view l.fn.out }

abbrev pub decreases-pieces : goal.decreases-pieces
decreases-pieces g l = left_of l.walked
