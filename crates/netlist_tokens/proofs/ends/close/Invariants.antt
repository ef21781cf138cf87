-- The comment goes on from here.
use Rattle.std.proofs.Common.{◌≡◌, ◌+◌, ◌≤◌, length, false}
use Rattle.netlist_tokens.specs.Scan.{after_close}
use Rattle.netlist_tokens.proofs.ends.close.Given as goal

abbrev pub invariant-bytes : goal.invariant-bytes
invariant-bytes l = record {
  reads : after_close false l.start l.bytes ≡ after_close l.starred l.at l.rest;
  fits : l.at + length l.rest ≡ l.start + length l.bytes;
  onward : l.start ≤ l.at;
}

abbrev pub decreases-bytes : goal.decreases-bytes
decreases-bytes l = length l.rest
