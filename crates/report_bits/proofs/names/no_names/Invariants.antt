-- No more than wanted are there, and none is made.
use Rattle.std.proofs.Common.{◌-◌, ◌≤◌, length}
use Rattle.report_bits.specs.Names.{HasNoName}
use Rattle.report_bits.proofs.names.no_names.Given as goal

abbrev pub invariant-nets : goal.invariant-nets
invariant-nets l = record {
  few : length l.names.items ≤ l.nets;
  none : HasNoName l.names.items;
}

abbrev pub decreases-nets : goal.decreases-nets
decreases-nets l = l.nets - length l.names.items
