-- What a command comes to, a row for each way: what stood before, its own cause, and what the shelf and the sink hold.
use Rattle.std.specs.Prelude.{◌≡◌, ◌⊎◌, ℕ, List, ◌++◌, length, Some, slice_get, Ok, Err, IsTrue, Bool, String, map}
use Rattle.std.specs.Prelude.{string_bytes}
use Rattle.std.specs.declared.alloc.Global.{Global}
use Rattle.base_shelf.specs.Shelf.{View, Nothing, SameCounts, Rose}
use Rattle.base_shelf.specs.Sink.{SinkView}
use Rattle.base_shelf.specs.Calls.{Gained}
use Rattle.base_run.specs.Outputs.{DeliveredTo, File, LeavesUpTo}
use Rattle.base_run.specs.Lines.{report_name}
use Rattle.base_run.specs.Phases.{Answer, Phases, ComesTo, IsTooLong, LeavesClosed, ReadsNext}

-- What a run is given: its words, the shelf and the sink, and whether these tell their bytes.
pub record Start : Type 0 where
  pub line : List (List ℕ)
  pub shelf_told : Bool
  pub sink_told : Bool
  pub shelf : View
  pub sink : SinkView

abbrev pub start_with : List (List ℕ) → Bool → Bool → View → SinkView → Start
start_with line shelf_told sink_told shelf sink = record {
  line = line;
  shelf_told = shelf_told;
  sink_told = sink_told;
  shelf = shelf;
  sink = sink;
}

abbrev pub start_of : List (String Global) → Bool → Bool → View → SinkView → Start
start_of words shelf_told sink_told shelf sink = start_with (map string_bytes words) shelf_told sink_told shelf sink

-- The texts come to this answer.
abbrev pub Stands : {C : Type 0} → Phases Answer C → Start → Answer → Type 0
Stands p s answer = ComesTo s.shelf_told s.shelf.files p (Ok answer)

-- All is delivered and printed, no other file was written and none changed, no count rose, and the shelf is over the
-- texts that it was made over.
pub record DoneRow {C : Type 0} (p : Phases Answer C) (s : Start) (shelf : View) (sink : SinkView) : Type 0 where
  pub answer : Answer
  pub stands : Stands p s answer
  pub delivered : DeliveredTo s.shelf_told (length answer.files) answer.files s.shelf shelf
  pub printed : IsTrue s.sink_told → sink.bytes ≡ s.sink.bytes ++ answer.printed
  pub counts : SameCounts s.shelf shelf
  pub faults : sink.faults ≡ s.sink.faults
  pub closed : LeavesClosed p s.shelf shelf (Ok answer)
  pub begun : shelf.begun ≡ s.shelf.begun

-- The reading count of an input file that was to be read rose. No file changed.
pub record ReadRow {C : Type 0} (p : Phases Answer C) (s : Start) (shelf : View) (name : List ℕ) : Type 0 where
  pub next : ReadsNext s.shelf_told s.shelf.files p name
  pub cause : Rose (s.shelf.reads name) (shelf.reads name)
  pub files : shelf.files ≡ s.shelf.files
  pub closed : shelf.hand ≡ Nothing

-- The texts are refused, with all that passed before. No file changed, no count rose, and a file stays in hand only
-- where a text is too long.
pub record TextRow {C : Type 0} (p : Phases Answer C) (s : Start) (shelf : View) (cause : C) : Type 0 where
  pub comes : ComesTo s.shelf_told s.shelf.files p (Err cause)
  pub files : shelf.files ≡ s.shelf.files
  pub counts : SameCounts s.shelf shelf
  pub closed : LeavesClosed p s.shelf shelf (Err cause) ⊎ IsTooLong s.shelf_told s.shelf.files p cause

-- The answer stood, and the writing count of the output of number i rose: no file changed, or all outputs were written
-- and those before it are whole. Nothing was printed.
pub record OutputFails (s : Start) (answer : Answer) (shelf : View) (sink : SinkView) (name : List ℕ) : Type 0 where
  pub i : ℕ
  pub file : File
  pub is : slice_get answer.files i ≡ Some file
  pub name_is : name ≡ file.name
  pub left : LeavesUpTo s.shelf_told answer.files i s.shelf shelf
  pub rose : Rose (s.shelf.writes name) (shelf.writes name)
  pub closed : shelf.hand ≡ Nothing
  pub unprinted : sink ≡ s.sink

-- Or all outputs are whole, the sink gained a prefix of the report, and its count rose.
pub record ReportFails {C : Type 0} (p : Phases Answer C) (s : Start) (answer : Answer) (shelf : View) (sink : SinkView)
    (name : List ℕ) : Type 0 where
  pub name_is : name ≡ report_name
  pub delivered : DeliveredTo s.shelf_told (length answer.files) answer.files s.shelf shelf
  pub gained : IsTrue s.sink_told → Gained answer.printed s.sink sink
  pub rose : Rose s.sink.faults sink.faults
  pub counts : SameCounts s.shelf shelf
  pub closed : LeavesClosed p s.shelf shelf (Ok answer)

pub record WriteRow {C : Type 0} (p : Phases Answer C) (s : Start) (shelf : View) (sink : SinkView)
    (name : List ℕ) : Type 0 where
  pub answer : Answer
  pub stands : Stands p s answer
  pub fails : OutputFails s answer shelf sink name ⊎ ReportFails p s answer shelf sink name

-- No file changed, and nothing was printed; or the answer stood, all outputs were written and the first k are whole,
-- and the sink gained a prefix of the report once they all were.
pub record NothingDone (s : Start) (shelf : View) (sink : SinkView) : Type 0 where
  pub files : shelf.files ≡ s.shelf.files
  pub unprinted : sink ≡ s.sink

pub record PartDone {C : Type 0} (p : Phases Answer C) (s : Start) (shelf : View) (sink : SinkView) : Type 0 where
  pub answer : Answer
  pub stands : Stands p s answer
  pub k : ℕ
  pub delivered : DeliveredTo s.shelf_told k answer.files s.shelf shelf
  pub gained : (sink ≡ s.sink) ⊎ ((k ≡ length answer.files) × (IsTrue s.sink_told → Gained answer.printed s.sink sink))

-- Want of memory. No count rose.
pub record MemoryRow {C : Type 0} (p : Phases Answer C) (s : Start) (shelf : View) (sink : SinkView) : Type 0 where
  pub state : NothingDone s shelf sink ⊎ PartDone p s shelf sink
  pub counts : SameCounts s.shelf shelf
  pub faults : sink.faults ≡ s.sink.faults
