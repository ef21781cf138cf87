-- The pieces so far are set, and none of them is at fault.
use Rattle.std.proofs.Common.{◌≡◌, length, take}
use Rattle.report_fix.specs.Started.{AreFine, names_of, started_below}
use Rattle.report_fix.proofs.starts.started.Given as goal

abbrev pub invariant-pieces : goal.invariant-pieces
invariant-pieces l = record {
  names : l.names ≡ names_of (take l.index l.sets);
  fine : AreFine l.design l.starts l.sets l.index;
  starts : l.new.items ≡ started_below l.design l.starts l.sets l.index;
  long : length l.new.items ≡ length l.starts;
}
