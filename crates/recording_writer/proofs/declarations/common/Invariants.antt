-- So many names are the same.
use Rattle.std.proofs.Common.{◌≡◌, ◌+◌, ◌-◌, ◌≤◌, length, drop}
use Rattle.recording_writer.specs.Declarations.{common}
use Rattle.recording_writer.proofs.declarations.common.Given as goal

abbrev pub invariant-names : goal.invariant-names
invariant-names l = record {
  so_far : common l.from l.to ≡ common (drop l.count l.from) (drop l.count l.to) + l.count;
  within_from : l.count ≤ length l.from;
  within_to : l.count ≤ length l.to;
}

abbrev pub decreases-names : goal.decreases-names
decreases-names l = length l.from - l.count
