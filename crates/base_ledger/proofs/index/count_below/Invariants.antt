-- The numbers on both sides of the halves are looked at.
use Rattle.std.proofs.Common.{◌-◌, ◌<◌, ◌≤◌, length, slice_index}
use Rattle.base_ledger.proofs.index.count_below.Given as goal

abbrev pub invariant-halves : goal.invariant-halves
invariant-halves l = record {
  order : l.low ≤ l.high;
  within : l.high ≤ length l.numbers;
  last : 0 < l.low → slice_index l.numbers (l.low - 1) < l.end;
  next : l.high < length l.numbers → l.end ≤ slice_index l.numbers l.high;
}

abbrev pub decreases-halves : goal.decreases-halves
decreases-halves l = l.high - l.low
