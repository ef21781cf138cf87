-- Those that are left are among the lanes.
use Rattle.decide_lanes.specs.Pairs.{AreAmong}
use Rattle.decide_lanes.proofs.counts.Counts.least.Given as goal

abbrev pub invariant-digits : goal.invariant-digits
invariant-digits l = AreAmong l.least l.fn.lanes
