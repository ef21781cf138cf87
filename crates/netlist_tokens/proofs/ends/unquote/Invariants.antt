-- The text goes on from here.
use Rattle.std.proofs.Common.{◌≡◌, ◌+◌, ◌≤◌, length}
use Rattle.netlist_tokens.specs.Byte.{quote}
use Rattle.netlist_tokens.specs.Scan.{after_quote}
use Rattle.netlist_tokens.proofs.ends.unquote.Given as goal

abbrev pub invariant-bytes : goal.invariant-bytes
invariant-bytes l = record {
  reads : after_quote quote l.start l.bytes ≡ after_quote l.before l.at l.rest;
  fits : l.at + length l.rest ≡ l.start + length l.bytes;
  onward : l.start ≤ l.at;
}

abbrev pub decreases-bytes : goal.decreases-bytes
decreases-bytes l = length l.rest
