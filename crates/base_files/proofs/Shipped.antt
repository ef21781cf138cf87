-- What a run that ended with 0 says of the calls that were noted.
use Rattle.std.proofs.Common.{◌≡◌, ◌∙◌, ap, sym, subst, refl, ℕ, List, Option, Some, None, true, map, length, take, get_or, arith}
use Rattle.std.specs.Prelude.{Contains, is_some}
use Rattle.std.specs.List.{All}
use Rattle.std.proofs.lemmas.List.{take_all}
use Rattle.base_shelf.specs.NamedFiles.{File as NamedFile, files_of}
use Rattle.base_shelf.specs.Shelf.{Files}
use Rattle.base_shelf.specs.Sink.{SinkView}
use Rattle.base_run.specs.Ends.{Commands, Comes}
use Rattle.base_run.specs.Outputs.{File, IsWhole, name_in}
use Rattle.base_run.specs.Rows.{DoneRow, start_with}
use Rattle.base_run.proofs.Reading.{found_so, surely_there}
use Rattle.base_files.specs.Seen.{shelf_seen}
use Rattle.base_files.specs.Shipped.{AreKept, IsFetchedFor, Shipped, WasGiven, WasTaken, WritesOthers, start_over}
use Rattle.base_files.specs.Stage.{files_in, put_in, taken_in, taken_or, written_in}
use Rattle.base_files.specs.declared.fetched.Fetched.{Fetched}
use Rattle.base_files.specs.declared.stage.Stage.{Stage}
use Rattle.base_files.specs.declared.stage.Stage.TheVariants.{Resting}
use Rattle.base_trace.specs.Record.{traced}

none_found : (found : Option (List ℕ)) → (is_some found ≡ true → ⊥) → found ≡ None
none_found None not = refl
none_found (Some text) not = absurd (not refl)

-- What was taken, where nothing was there before.
by_trace : (trace before : Option (List ℕ)) (bytes : List ℕ) → before ≡ None → taken_or trace before ≡ Some bytes → trace ≡ Some bytes
by_trace None before bytes none is = sym none ∙ is
by_trace (Some text) before bytes none is = is

module _ (k : Commands) (read_by : k.Words → List (List ℕ)) (kept : AreKept k read_by) (line : List (List ℕ)) (fetched : Fetched) (before : SinkView)
    (stage : Stage) (texts : List NamedFile) (reads writes : ℕ) (after : SinkView) (is : IsFetchedFor k read_by line fetched) where
  module _ (w : k.Words) (means : k.Means line w) (row : DoneRow (k.phases_of w) (start_over line fetched before) (shelf_seen stage texts reads writes) after) where
    same : files_of texts ≡ files_of fetched.texts
    same = row.begun

    given : (name : List ℕ) → Contains (read_by w) name → WasGiven fetched name
    given name named =
        let found = surely_there (files_of fetched.texts) name (k.phases_of w) row.answer fetched.limit (is.sure w means name named) row.stands in
        let gave = is.is name found.0 found.1 in
        record { text = found.0; held = found.1; gave = gave.is; ended = gave.whole found.2 }

    others_written : All (λ (file : File). Contains (read_by w) file.name → ⊥) row.answer.files
    others_written = found_so (WritesOthers (read_by w)) true (files_of fetched.texts) (k.phases_of w) row.answer (kept line w means) row.stands

    -- no file of the answer had a text
    textless : (name : List ℕ) → (Contains (read_by w) name → ⊥) → files_of texts name ≡ None
    textless name not = none_found (files_of texts name) (λ there. not (is.among w means name (ap (λ (f : Files). is_some (f name)) (sym same) ∙ there)))

    -- its bytes were taken, and put
    taken_one : (file : File) → (Contains (read_by w) file.name → ⊥) → written_in stage file.name ≡ Some file.bytes → files_in stage (files_of texts) file.name ≡ Some file.bytes → WasTaken stage file
    taken_one file not took whole = record {
      took = took;
      put = by_trace (traced (put_in stage) file.name) (files_of texts file.name) file.bytes (textless file.name not) whole;
    }

    all_files : take (length row.answer.files) row.answer.files ≡ row.answer.files
    all_files = take_all (length row.answer.files) row.answer.files (omega arith)

    written : All (IsWhole true (written_in stage)) row.answer.files
    written = subst (All (IsWhole true (written_in stage))) all_files row.delivered.written.whole

    whole : All (IsWhole true (files_in stage (files_of texts))) row.answer.files
    whole = subst (All (IsWhole true (files_in stage (files_of texts)))) all_files row.delivered.put.whole

    taken : All (WasTaken stage) row.answer.files
    taken = λ i d less. taken_one (get_or row.answer.files i d) (others_written i d less) (written i d less refl) (whole i d less refl)

    untaken : (name : List ℕ) → (Contains (map name_in row.answer.files) name → ⊥) → traced (taken_in stage) name ≡ None
    untaken name not = row.delivered.written.rest name (λ within. not (subst (λ (fs : List File). Contains (map name_in fs) name) all_files within))

    pub row_shipped : Shipped k read_by line fetched before stage texts reads writes after
    row_shipped = record { words = w; means = means; row = row; inputs = given; outputs = taken; others = untaken }

  -- A run that ends with 0.
  pub shipped : (status : ℕ) → Comes k (start_over line fetched before) (shelf_seen stage texts reads writes) after status → status ≡ 0
      → Shipped k read_by line fetched before stage texts reads writes after
  shipped status comes zero = let there = comes.done zero in row_shipped there.0 there.1 there.2

-- A shelf that was just made.
pub started : (line : List (List ℕ)) (fetched : Fetched) (sink : SinkView) (stage : Stage) (held : Fetched) (reads writes : ℕ)
    → stage ≡ Resting → held ≡ fetched → reads ≡ 0 → writes ≡ 0
    → start_with line true true (shelf_seen stage held.texts reads writes) sink ≡ start_over line fetched sink
started line fetched sink stage held reads writes stage_is held_is reads_is writes_is = rw (stage_is, held_is, reads_is, writes_is) refl
