-- The numbers on both sides of the halves are looked at.
use Rattle.std.proofs.Common.{◌-◌, ◌<◌, ◌≤◌, length}
use Rattle.wave_bytes.specs.Anew.{anew_number, nth_anew}
use Rattle.wave_bytes.proofs.rows.count_below.Given as goal

abbrev pub invariant-halves : goal.invariant-halves
invariant-halves l = record {
  order : l.low ≤ l.high;
  within : l.high ≤ length l.log;
  last : 0 < l.low → anew_number (nth_anew l.log (l.low - 1)) < l.number;
  next : l.high < length l.log → l.number ≤ anew_number (nth_anew l.log l.high);
}

abbrev pub decreases-halves : goal.decreases-halves
decreases-halves l = l.high - l.low
