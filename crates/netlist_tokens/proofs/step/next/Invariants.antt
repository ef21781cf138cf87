-- What is told is told from here.
use Rattle.std.proofs.Common.{◌≡◌, ◌+◌, length}
use Rattle.netlist_tokens.specs.Scan.{left}
use Rattle.netlist_tokens.proofs.step.next.Given as goal

abbrev pub invariant-rest : goal.invariant-rest
invariant-rest l = record {
  tells : left l.start l.bytes ≡ left l.at l.rest;
  fits : l.at + length l.rest ≡ l.start + length l.bytes;
}

abbrev pub decreases-rest : goal.decreases-rest
decreases-rest l = length l.rest
