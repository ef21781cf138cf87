-- The entries on both sides of the halves are looked at.
use Rattle.std.proofs.Common.{◌-◌, ◌<◌, ◌≤◌, length}
use Rattle.wave_bytes.specs.Track.{nth_entry}
use Rattle.wave_bytes.proofs.track.count_by_halves.Given as goal

abbrev pub invariant-halves : goal.invariant-halves
invariant-halves l = record {
  order : l.low ≤ l.high;
  within : l.high ≤ length l.entries;
  last : 0 < l.low → (nth_entry l.entries (l.low - 1)).step ≤ l.step;
  next : l.high < length l.entries → l.step < (nth_entry l.entries l.high).step;
}

abbrev pub decreases-halves : goal.decreases-halves
decreases-halves l = l.high - l.low
