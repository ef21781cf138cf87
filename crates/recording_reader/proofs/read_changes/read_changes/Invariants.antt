-- Change by change.
use Rattle.std.proofs.Common.{◌≡◌, false, length}
use Rattle.recording_reader.specs.Machine.State.{body}
use Rattle.recording_reader.specs.Reading.{goes}
use Rattle.recording_reader.proofs.read_changes.read_changes.Given as goal

abbrev pub invariant-changes : goal.invariant-changes
invariant-changes l = record {
  reads : goes (body l.fn.changed false) l.fn.words ≡ goes (body l.changed l.dump) l.words;
}

abbrev pub decreases-changes : goal.decreases-changes
decreases-changes l = length l.words.words
