-- The run goes on from here.
use Rattle.std.proofs.Common.{◌≡◌, ◌+◌, ◌≤◌, length}
use Rattle.netlist_tokens.specs.Scan.{passes, after}
use Rattle.netlist_tokens.proofs.ends.run.Given as goal

abbrev pub invariant-bytes : goal.invariant-bytes
invariant-bytes l = record {
  reads : after (passes l.class) l.start l.bytes ≡ after (passes l.class) l.at l.rest;
  fits : l.at + length l.rest ≡ l.start + length l.bytes;
  onward : l.start ≤ l.at;
}

abbrev pub decreases-bytes : goal.decreases-bytes
decreases-bytes l = length l.rest
