-- The bytes so far hold no gap.
use Rattle.std.proofs.Common.{◌≡◌, ◌+◌, length}
use Rattle.base_scan.specs.Gaps.{first_length}
use Rattle.base_scan.proofs.gap.first_length.Given as goal

abbrev pub invariant-bytes : goal.invariant-bytes
invariant-bytes l = record {
  is : first_length l.gap l.text ≡ l.count + first_length l.gap l.rest;
  fits : l.count + length l.rest ≡ length l.text;
}

abbrev pub decreases-bytes : goal.decreases-bytes
decreases-bytes l = length l.rest
