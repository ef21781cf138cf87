-- How a run ends: a status, and the line of a refusal after what was printed.
use Rattle.std.specs.Prelude.{◌≡◌, ◌≢◌, ◌⊎◌, ℕ, ◌≤◌, List, [], ◌++◌, Some, slice_get, Result, Ok, Err, IsTrue, Bool}
use Rattle.std.specs.Prelude.{string_bytes}
use Rattle.base_shelf.specs.Shelf.{View, Rose}
use Rattle.base_shelf.specs.Calls.{Gained, GainedLess}
use Rattle.base_shelf.specs.Sink.{SinkView}
use Rattle.base_lists.specs.Text.{line}
use Rattle.base_run.specs.Lines.{memory_line, read_line, report_name, usage_line, write_line}
use Rattle.base_run.specs.Outputs.{DeliveredTo, Delivery, File}
use Rattle.base_run.specs.Phases.{Answer, Phases, IsFirm, NeverRefused, PassesAll, ReadsNext}
use Rattle.base_run.specs.Rows.{Start, Stands, DoneRow, ReadRow, TextRow, WriteRow, MemoryRow}
use Rattle.base_run.specs.declared.refusal.Refusal.{Refusal}
use Rattle.base_run.specs.declared.refusal.Refusal.TheVariants.{Read, Long, Text, Memory}
use Rattle.base_run.specs.declared.undelivered.Undelivered.{Undelivered}
use Rattle.base_run.specs.declared.undelivered.Undelivered.TheVariants.{Fault, Memory as NoMemory}

-- ---- a line

-- A ready line was printed: a prefix of it, all of it where no count rose; or memory ended in it, with status 20 and
-- not all of it printed.
pub record LinePrinted (told : Bool) (text : List ℕ) (own : ℕ) (old new : SinkView) (status : ℕ) : Type 0 where
  pub is : (status ≡ own) ⊎ (status ≡ 20)
  pub later : old.faults ≤ new.faults
  pub gained : IsTrue told → Gained text old new
  pub whole : status ≢ 20 → IsTrue told → (new.bytes ≡ old.bytes ++ text) ⊎ Rose old.faults new.faults
  pub less : status ≢ own → IsTrue told → GainedLess text old new

-- The line of want of memory was printed, or a prefix of it.
pub record MemoryPrinted (told : Bool) (old new : SinkView) (status : ℕ) : Type 0 where
  pub is : status ≡ 20
  pub later : old.faults ≤ new.faults
  pub gained : IsTrue told → Gained memory_line old new

-- A line was made and printed; or there was no memory to make it.
abbrev pub LineMade : Bool → List ℕ → ℕ → SinkView → SinkView → ℕ → Type 0
LineMade told text own old new status = LinePrinted told text own old new status ⊎ MemoryPrinted told old new status

-- The sink gained a beginning of the first text, then one of the second, then one of the third.
abbrev pub GainedInTurn : List ℕ → List ℕ → List ℕ → SinkView → SinkView → Type 0
GainedInTurn first second third old new =
    (mid : SinkView) × (last : SinkView) × Gained first old mid × Gained second mid last × Gained third last new

-- ---- a command

-- How a refusal of texts is reported.
pub record Reporting (C : Type 0) : Type 0 where
  pub status_of : C → ℕ
  pub text_of : C → List ℕ

abbrev pub reporting_of : {C : Type 0} → (C → ℕ) → (C → List ℕ) → Reporting C
reporting_of status_of text_of = record { status_of = status_of; text_of = text_of }

-- A refusal before the first output, reported.
abbrev pub ReportsRefusal : {C : Type 0} → (C → ℕ) → (C → List ℕ) → Bool → Refusal C → SinkView → SinkView → ℕ → Type 0
ReportsRefusal status_of text_of told (Read file) old new status =
    LineMade told (read_line (string_bytes file)) 3 old new status
ReportsRefusal status_of text_of told (Long cause) old new status =
    LineMade told (line (text_of cause)) (status_of cause) old new status
ReportsRefusal status_of text_of told (Text cause) old new status =
    LineMade told (line (text_of cause)) (status_of cause) old new status
ReportsRefusal status_of text_of told Memory old new status = MemoryPrinted told old new status

-- What was delivered, and how it was reported where it wasn't all.
abbrev pub ReportedAs : Bool → Result Unit Undelivered → SinkView → SinkView → ℕ → Type 0
ReportedAs told (Ok _) before new status = (status ≡ 0) × (new ≡ before)
ReportedAs told (Err (Fault text)) before new status = LinePrinted told text.now 4 before new status
ReportedAs told (Err NoMemory) before new status = MemoryPrinted told before new status

pub record Delivers (told sink_told : Bool) (answer : Answer) (old new : View) (first last : SinkView)
    (status : ℕ) : Type 0 where
  pub before : SinkView
  pub result : Result Unit Undelivered
  pub delivery : Delivery told sink_told answer.files answer.printed old new first before result
  pub reported : ReportedAs sink_told result before last status

-- A command came to one of its rows, and ended so.
pub data Ran {C : Type 0} (p : Phases Answer C) (t : Reporting C) (s : Start) (shelf : View) (sink : SinkView)
    (status : ℕ) : Type 0 where
  ends_done : status ≡ 0 → DoneRow p s shelf sink → Ran p t s shelf sink status
  ends_unread : (name : List ℕ) → ReadRow p s shelf name → LineMade s.sink_told (read_line name) 3 s.sink sink status
      → Ran p t s shelf sink status
  ends_refused : (cause : C) → TextRow p s shelf cause
      → LineMade s.sink_told (line (t.text_of cause)) (t.status_of cause) s.sink sink status
      → Ran p t s shelf sink status
  ends_unwritten : (name : List ℕ) (before : SinkView) → WriteRow p s shelf before name
      → LinePrinted s.sink_told (write_line name) 4 before sink status → Ran p t s shelf sink status
  ends_without_memory : (before : SinkView) → MemoryRow p s shelf before → MemoryPrinted s.sink_told before sink status
      → Ran p t s shelf sink status

-- No fault was ever counted.
pub record HasNoFaults (shelf : View) (sink : SinkView) : Type 0 where
  pub reads : (name : List ℕ) → shelf.reads name ≡ 0
  pub writes : (name : List ℕ) → shelf.writes name ≡ 0
  pub printed : sink.faults ≡ 0

-- ---- commands

-- A set of commands: what a line of words means, the phases of a command, and how its refusals are reported.
pub record Commands : Type 1 where
  pub Words : Type 0
  pub Cause : Type 0
  pub Means : List (List ℕ) → Words → Type 0
  pub phases_of : Words → Phases Answer Cause
  pub reporting : Reporting Cause

module _ (k : Commands) (s : Start) where
  -- The words aren't in the set.
  abbrev pub IsOutside : Type 0
  IsOutside = (w : k.Words) → k.Means s.line w → ⊥

  -- They were refused, or memory ran out before it was known what they mean; or their command ran.
  pub data RanWords (shelf : View) (sink : SinkView) (status : ℕ) : Type 0 where
    ends_outside : IsOutside → shelf ≡ s.shelf → LinePrinted s.sink_told usage_line 2 s.sink sink status
        → RanWords shelf sink status
    ends_without_words : shelf ≡ s.shelf → MemoryPrinted s.sink_told s.sink sink status → RanWords shelf sink status
    ends_within : (w : k.Words) → k.Means s.line w → Ran (k.phases_of w) k.reporting s shelf sink status
        → RanWords shelf sink status

  -- ---- what a run comes to, by its status

  -- A command of the line, and what holds of it.
  abbrev pub Within : (k.Words → Type 0) → Type 0
  Within Holds = (w : k.Words) × k.Means s.line w × Holds w

  -- 2: the words aren't in the set, and the shelf is as it was.
  pub record Usage (shelf : View) (sink : SinkView) (status : ℕ) : Type 0 where
    pub outside : IsOutside
    pub same : shelf ≡ s.shelf
    pub line : LinePrinted s.sink_told usage_line 2 s.sink sink status

  -- 3: an input file couldn't be read.
  pub record Unread (w : k.Words) (shelf : View) (sink : SinkView) (status : ℕ) : Type 0 where
    pub name : List ℕ
    pub row : ReadRow (k.phases_of w) s shelf name
    pub line : LineMade s.sink_told (read_line name) 3 s.sink sink status

  -- 4: an output file couldn't be written, or the report not printed.
  pub record Unwritten (w : k.Words) (shelf : View) (sink : SinkView) (status : ℕ) : Type 0 where
    pub name : List ℕ
    pub before : SinkView
    pub row : WriteRow (k.phases_of w) s shelf before name
    pub line : LinePrinted s.sink_told (write_line name) 4 before sink status

  -- 5 to 19: the texts are refused for a cause of that status.
  pub record TextsRefused (w : k.Words) (shelf : View) (sink : SinkView) (status : ℕ) : Type 0 where
    pub cause : k.Cause
    pub row : TextRow (k.phases_of w) s shelf cause
    pub status_is : status ≡ k.reporting.status_of cause
    pub line : LineMade s.sink_told (line (k.reporting.text_of cause)) (k.reporting.status_of cause) s.sink sink status

  -- Texts that are refused before any search are refused so, a fault of reading and want of memory aside.
  abbrev pub TextsExact : ℕ → Type 0
  TextsExact status = IsTrue s.shelf_told → (w : k.Words) → k.Means s.line w → (cause : k.Cause)
      → IsFirm s.shelf_told s.shelf.files (k.phases_of w) cause
      → (status ≡ k.reporting.status_of cause) ⊎ ((status ≡ 3) ⊎ (status ≡ 20))

  -- No count that could excuse the run rose: of a file that is to be read, of one that is to be written, or the sink's.
  pub record NoFault (w : k.Words) (shelf : View) (sink : SinkView) : Type 0 where
    pub reads : (name : List ℕ) → ReadsNext s.shelf_told s.shelf.files (k.phases_of w) name
        → Rose (s.shelf.reads name) (shelf.reads name) → ⊥
    pub writes : (answer : Answer) (i : ℕ) (file : File) → Stands (k.phases_of w) s answer
        → slice_get answer.files i ≡ Some file
        → Rose (s.shelf.writes file.name) (shelf.writes file.name) → ⊥
    pub printed : Rose s.sink.faults sink.faults → ⊥

  -- Texts that pass each phase, and that no search refuses, are answered, want of memory and faults aside.
  abbrev pub IsAnswered : View → SinkView → ℕ → Type 0
  IsAnswered shelf sink status = IsTrue s.shelf_told → (w : k.Words) → k.Means s.line w
      → PassesAll s.shelf.files (k.phases_of w) → NoFault w shelf sink → (status ≡ 0) ⊎ (status ≡ 20)

  -- So are those that come to no refusal.
  abbrev pub IsUnrefused : View → SinkView → ℕ → Type 0
  IsUnrefused shelf sink status = (w : k.Words) → k.Means s.line w
      → NeverRefused s.shelf_told s.shelf.files (k.phases_of w) → NoFault w shelf sink → (status ≡ 0) ⊎ (status ≡ 20)

  -- ---- what a run leaves

  -- The files: as they were; or, with no status but 0, 4 and 20, all those of an answer that stood were written, the
  -- first of them are whole under their names, and every other name holds what it held.
  pub data LeavesFiles (shelf : View) (status : ℕ) : Type 0 where
    leaves_as_before : shelf.files ≡ s.shelf.files → LeavesFiles shelf status
    leaves_written : (status ≡ 0) ⊎ ((status ≡ 4) ⊎ (status ≡ 20))
        → Within (λ w. (answer : Answer) × Stands (k.phases_of w) s answer
        × ((k : ℕ) × DeliveredTo s.shelf_told k answer.files s.shelf shelf)) → LeavesFiles shelf status

  -- The line of a refusal, by its status.
  pub data IsLineOf (status : ℕ) (text : List ℕ) : Type 0 where
    of_words : status ≡ 2 → text ≡ usage_line → IsLineOf status text
    of_input : status ≡ 3 → (name : List ℕ) → text ≡ read_line name → IsLineOf status text
    of_output : status ≡ 4 → (name : List ℕ) → text ≡ write_line name → IsLineOf status text
    of_texts : (cause : k.Cause) → status ≡ k.reporting.status_of cause → text ≡ line (k.reporting.text_of cause)
        → IsLineOf status text

  -- What is printed of an answer that stands; or nothing.
  abbrev pub IsReport : List ℕ → Type 0
  IsReport text = (text ≡ [])
      ⊎ Within (λ w. (answer : Answer) × Stands (k.phases_of w) s answer × (text ≡ answer.printed))

  -- The line of some refusal; or nothing.
  abbrev pub IsRefusal : List ℕ → Type 0
  IsRefusal text = (text ≡ []) ⊎ ((status : ℕ) × IsLineOf status text)

  -- What the sink gained: at 0 the report; at 4 for the sink a part of the report, then of the line; at 20 a part of
  -- the report, then of another refusal's line, then of that of want of memory; else the line alone, whole unless the
  -- sink's count rose.
  pub data Gains (sink : SinkView) (status : ℕ) : Type 0 where
    gains_report : status ≡ 0 → (text : List ℕ) → IsReport text → sink.bytes ≡ s.sink.bytes ++ text → Gains sink status
    gains_part : status ≡ 4 → (text : List ℕ) → IsReport text → Rose s.sink.faults sink.faults
        → GainedInTurn text (write_line report_name) [] s.sink sink → Gains sink status
    gains_memory : status ≡ 20 → (text own : List ℕ) → IsReport text → IsRefusal own
        → GainedInTurn text own memory_line s.sink sink → Gains sink status
    gains_line : (text : List ℕ) → IsLineOf status text → Gained text s.sink sink
        → (sink.bytes ≡ s.sink.bytes ++ text) ⊎ Rose s.sink.faults sink.faults → Gains sink status

  -- What a run comes to, a clause a status.
  pub record Comes (shelf : View) (sink : SinkView) (status : ℕ) : Type 0 where
    pub done : status ≡ 0 → Within (λ w. DoneRow (k.phases_of w) s shelf sink)
    pub usage : status ≡ 2 → Usage shelf sink status
    pub read : status ≡ 3 → Within (λ w. Unread w shelf sink status)
    pub write : status ≡ 4 → Within (λ w. Unwritten w shelf sink status)
    pub texts : 5 ≤ status → status ≤ 19 → Within (λ w. TextsRefused w shelf sink status)
    -- 20: want of memory, in any of these.
    pub memory : status ≡ 20 → RanWords shelf sink status
    pub only : (status ≢ 1) × (status ≤ 20)
    pub files : LeavesFiles shelf status
    pub gains : IsTrue s.sink_told → Gains sink status
    pub usage_exact : IsOutside → (status ≡ 2) ⊎ (status ≡ 20)
    pub texts_exact : TextsExact status
    -- Where no fault was ever counted, it is neither 3 nor 4.
    pub faultless : HasNoFaults shelf sink → (status ≢ 3) × (status ≢ 4)
    pub complete : IsAnswered shelf sink status
    pub unrefused : IsUnrefused shelf sink status
