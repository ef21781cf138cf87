-- Counting on: all before come in the moment or before it.
use Rattle.std.proofs.Common.{◌-◌, length}
use Rattle.recording_changes.specs.Stored.{IsBefore}
use Rattle.recording_changes.proofs.track.count_on.Given as goal

abbrev pub invariant-entries : goal.invariant-entries
invariant-entries l = IsBefore l.moment l.entries l.count

abbrev pub decreases-entries : goal.decreases-entries
decreases-entries l = length l.entries - l.count
