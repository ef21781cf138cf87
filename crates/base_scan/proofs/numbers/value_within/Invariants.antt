-- The number so far.
use Rattle.std.proofs.Common.{◌≡◌, length}
use Rattle.base_scan.specs.Numbers.{at_most, number_from}
use Rattle.base_scan.proofs.numbers.value_within.Given as goal

abbrev pub invariant-digits : goal.invariant-digits
invariant-digits l = record {
  reads : at_most l.limit (number_from 0 l.digits) ≡ at_most l.limit (number_from l.number l.rest);
}

abbrev pub decreases-digits : goal.decreases-digits
decreases-digits l = length l.rest
