-- What a run over real files comes to with status 0, of what the calls of the system gave and took.
use Rattle.std.specs.Prelude.{◌≡◌, ℕ, List, None, Some, Contains, map, true}
use Rattle.std.specs.List.{All}
use Rattle.base_shelf.specs.NamedFiles.{File as NamedFile, files_of}
use Rattle.base_shelf.specs.Sink.{SinkView}
use Rattle.base_run.specs.Ends.{Commands}
use Rattle.base_run.specs.Outputs.{File, name_in}
use Rattle.base_run.specs.Reading.{FindsOnly, ReadsSurely}
use Rattle.base_run.specs.Phases.{Answer}
use Rattle.base_run.specs.Rows.{DoneRow, Start, start_with}
use Rattle.base_files.specs.Fetched.{HasAmong, IsFetched}
use Rattle.base_files.specs.Put.{IsPut}
use Rattle.base_files.specs.Seen.{shelf_seen}
use Rattle.base_files.specs.Stage.{taken_in}
use Rattle.base_files.specs.declared.fetched.Fetched.{Fetched}
use Rattle.base_files.specs.declared.stage.Stage.{Stage}
use Rattle.base_files.specs.declared.stage.Stage.TheVariants.{Resting}
use Rattle.base_trace.specs.Record.{traced}

-- A run begins with the texts that were fetched, no file made and no fault counted. Shelf and sink tell their bytes.
abbrev pub start_over : List (List ℕ) → Fetched → SinkView → Start
start_over line fetched sink = start_with line true true (shelf_seen Resting fetched.texts 0 0) sink

-- The reads of this name gave a text, and then no more, and the run was given that text.
pub record WasGiven (fetched : Fetched) (name : List ℕ) : Type 0 where
  pub text : List ℕ
  pub held : files_of fetched.texts name ≡ Some text
  pub gave : traced fetched.gave.entries name ≡ Some text
  pub ended : traced fetched.ended.entries name ≡ Some text

-- Since the file was made, its writes took exactly these bytes, and with these it was put under its name.
pub record WasTaken (stage : Stage) (file : File) : Type 0 where
  pub took : traced (taken_in stage) file.name ≡ Some file.bytes
  pub put : IsPut stage file.name file.bytes

-- No file of an answer has a name that is read.
abbrev pub WritesOthers : List (List ℕ) → Answer → Type 0
WritesOthers inputs answer = All (λ (file : File). Contains inputs file.name → ⊥) answer.files

module _ (k : Commands) (read_by : k.Words → List (List ℕ)) where
  -- What the texts that were fetched are for these words: those of the files that they name, each whole where the run
  -- may take it.
  pub record IsFetchedFor (line : List (List ℕ)) (fetched : Fetched) : Type 0 where
    pub is : IsFetched fetched
    pub among : (w : k.Words) → k.Means line w → HasAmong (read_by w) fetched
    pub sure : (w : k.Words) → k.Means line w → (name : List ℕ) → Contains (read_by w) name
        → ReadsSurely name fetched.limit (k.phases_of w)

  -- No command writes a file that it reads.
  abbrev pub AreKept : Type 0
  AreKept = (line : List (List ℕ)) (w : k.Words) → k.Means line w → FindsOnly (WritesOthers (read_by w)) (k.phases_of w)

  -- 0: what the words mean is done. Each file that they name as an input was read to its end; each file of the answer
  -- was written and put under its name, and no other file was made.
  pub record Shipped (line : List (List ℕ)) (fetched : Fetched) (before : SinkView) (stage : Stage)
      (texts : List NamedFile) (reads writes : ℕ) (after : SinkView) : Type 0 where
    pub words : k.Words
    pub means : k.Means line words
    pub row : DoneRow (k.phases_of words) (start_over line fetched before) (shelf_seen stage texts reads writes) after
    pub inputs : (name : List ℕ) → Contains (read_by words) name → WasGiven fetched name
    pub outputs : All (WasTaken stage) row.answer.files
    pub others : (name : List ℕ) → (Contains (map name_in row.answer.files) name → ⊥)
        → traced (taken_in stage) name ≡ None
