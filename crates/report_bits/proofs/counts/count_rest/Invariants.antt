-- The places before a number are counted.
use Rattle.std.proofs.Common.{◌≡◌}
use Rattle.report_bits.specs.Counts.{counts_below}
use Rattle.report_bits.proofs.counts.count_rest.Given as goal

abbrev pub invariant-numbers : goal.invariant-numbers
invariant-numbers l = l.counts ≡ counts_below l.wave l.number
