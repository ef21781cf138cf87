-- What is told is told from here.
use Rattle.std.proofs.Common.{◌≡◌, ◌+◌, ◌≤◌, length}
use Rattle.netlist_tokens.specs.Scan.{left, wire}
use Rattle.netlist_tokens.proofs.blank.skip_blanks.Given as goal

abbrev pub invariant-blanks : goal.invariant-blanks
invariant-blanks l = record {
  tells : left l.start l.bytes ≡ left l.at l.rest;
  wire : wire l.start l.bytes ≡ wire l.at l.rest;
  fits : l.at + length l.rest ≡ l.start + length l.bytes;
  onward : l.start ≤ l.at;
}

abbrev pub decreases-blanks : goal.decreases-blanks
decreases-blanks l = length l.rest
