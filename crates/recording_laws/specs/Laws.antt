-- The law of recordings: what the machine of recording_reader reads is what the text says.
use Rattle.std.specs.Prelude.{ℕ, List}
use Rattle.recording_reader.specs.Faults.{Says}
use Rattle.recording_reader.specs.Recording.{Recording}
use Rattle.recording_laws.specs.Moments.{IsSaid}

abbrev pub RecordingsAreSaid : Type 0
RecordingsAreSaid = (text : List ℕ) (r : Recording) → Says text r → IsSaid text r
