-- Declaration by declaration.
use Rattle.std.proofs.Common.{◌≡◌, ◌≤◌, length}
use Rattle.recording_reader.specs.Machine.State.{declaring}
use Rattle.recording_reader.specs.Reading.{goes}
use Rattle.recording_reader.proofs.read_declarations.read_declarations.Given as goal

abbrev pub invariant-declarations : goal.invariant-declarations
invariant-declarations l = record {
  reads : goes (declaring l.fn.declared) l.fn.words ≡ goes (declaring l.declared) l.words;
  shortens : length l.words.words ≤ length l.fn.words.words;
}

abbrev pub decreases-declarations : goal.decreases-declarations
decreases-declarations l = length l.words.words
