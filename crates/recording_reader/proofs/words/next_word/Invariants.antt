-- The bytes so far are white space.
use Rattle.std.proofs.Common.{◌≡◌, ◌+◌, length}
use Rattle.recording_reader.specs.Words.{left_of}
use Rattle.recording_reader.proofs.words.next_word.Given as goal

abbrev pub invariant-white : goal.invariant-white
invariant-white l = record {
  reads : left_of l.start l.bytes ≡ left_of l.at l.rest;
  fits : l.at + length l.rest ≡ l.start + length l.bytes;
}

abbrev pub decreases-white : goal.decreases-white
decreases-white l = length l.rest
