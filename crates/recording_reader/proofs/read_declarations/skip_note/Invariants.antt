-- The note goes on.
use Rattle.std.proofs.Common.{◌≡◌, ◌≤◌, length}
use Rattle.recording_reader.specs.Changes.{Body}
use Rattle.recording_reader.specs.Declarations.{Declarations}
use Rattle.recording_reader.specs.Machine.State.{note, body_note}
use Rattle.recording_reader.specs.Reading.{goes}
use Rattle.recording_reader.proofs.read_declarations.skip_note.Given as goal

abbrev pub invariant-words : goal.invariant-words
invariant-words l = record {
  reads : (h : Declarations) → goes (note h) l.fn.words ≡ goes (note h) l.words;
  in_body : (b : Body) → goes (body_note b) l.fn.words ≡ goes (body_note b) l.words;
  shortens : length l.words.words ≤ length l.fn.words.words;
}

abbrev pub decreases-words : goal.decreases-words
decreases-words l = length l.words.words
