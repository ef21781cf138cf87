-- The runs so far are counted, and the next number is none of theirs.
use Rattle.std.proofs.Common.{ℕ, ◌<◌, ◌≤◌, ◌-◌, length, slice_index, take}
use Rattle.std.specs.Prelude.{◌≢◌}
use Rattle.report_blame.specs.Tally.{IsTally}
use Rattle.report_blame.proofs.table.runs_of.Given as goal

abbrev pub invariant-runs : goal.invariant-runs
invariant-runs l = record {
  tally : IsTally (take l.first l.numbers) l.rows.items;
  within : l.first ≤ length l.numbers;
  apart : (k : ℕ) → k < l.first → l.first < length l.numbers
      → slice_index l.numbers k ≢ slice_index l.numbers l.first;
}

abbrev pub decreases-runs : goal.decreases-runs
decreases-runs l = length l.numbers - l.first
