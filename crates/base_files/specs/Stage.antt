-- What is seen of a shelf of real files by its stage.
use Rattle.std.specs.Prelude.{ℕ, List, [], drop, Option, Some, None, string_bytes}
use Rattle.base_shelf.specs.Shelf.{Files, Hand, Nothing, Opened as OpenedFile, Created as CreatedFile, bytes_of}
use Rattle.base_trace.specs.Record.{Traced, traced}
use Rattle.base_files.specs.declared.stage.Stage.{Stage}
use Rattle.base_files.specs.declared.stage.Stage.TheVariants.{Resting, Reading, Wrote, Writing}

abbrev pub hand_of : Stage → Hand
hand_of Resting = Nothing
hand_of (Reading opened) = OpenedFile (string_bytes opened.name)
hand_of (Wrote traces) = Nothing
hand_of (Writing created) = CreatedFile (string_bytes created.name)

-- What was written so far: of each name what the writes took since its file was made.
abbrev pub taken_in : Stage → List Traced
taken_in Resting = []
taken_in (Reading opened) = []
taken_in (Wrote traces) = traces.took.entries
taken_in (Writing created) = created.took.entries

-- What was put under each name: what its writes took until then.
abbrev pub put_in : Stage → List Traced
put_in Resting = []
put_in (Reading opened) = []
put_in (Wrote traces) = traces.put.entries
put_in (Writing created) = created.put.entries

abbrev pub taken_or : Option (List ℕ) → Option (List ℕ) → Option (List ℕ)
taken_or None before = before
taken_or (Some bytes) before = Some bytes

-- What was put under a name, else what it held before.
abbrev pub taken_over : List Traced → Files → Files
taken_over put texts name = taken_or (traced put name) (texts name)

abbrev pub files_in : Stage → Files → Files
files_in stage texts = taken_over (put_in stage) texts

-- What was written of a name.
abbrev pub written_in : Stage → Files
written_in stage name = traced (taken_in stage) name

-- What isn't read of the opened file.
abbrev pub unread_in : Stage → Files → List ℕ
unread_in Resting texts = []
unread_in (Reading opened) texts = drop opened.done (bytes_of (texts (string_bytes opened.name)))
unread_in (Wrote traces) texts = []
unread_in (Writing created) texts = []
