-- No change from the count on is of the position.
use Rattle.std.proofs.Common.{◌≢◌, ℕ, ◌<◌, ◌≤◌, length}
use Rattle.base_ledger.specs.Change.{change_position, nth_change}
use Rattle.base_ledger.proofs.ledger.value_after.Given as goal

abbrev pub invariant-changes : goal.invariant-changes
invariant-changes l = record {
  within : l.count ≤ length l.changes;
  none : (i : ℕ) → l.count ≤ i → i < length l.changes → change_position (nth_change l.changes i) ≢ l.position;
}

abbrev pub decreases-changes : goal.decreases-changes
decreases-changes l = l.count
