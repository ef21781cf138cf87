-- The numbers so far are equal.
use Rattle.std.proofs.Common.{◌≡◌, ℕ, ◌<◌, ◌≤◌, ◌-◌, length, slice_index}
use Rattle.report_blame.proofs.table.run_end.Given as goal

abbrev pub invariant-equals : goal.invariant-equals
invariant-equals l = record {
  some : l.first < l.end;
  within : l.end ≤ length l.numbers;
  same : (k : ℕ) → l.first ≤ k → k < l.end → slice_index l.numbers k ≡ slice_index l.numbers l.first;
}

abbrev pub decreases-equals : goal.decreases-equals
decreases-equals l = length l.numbers - l.end
