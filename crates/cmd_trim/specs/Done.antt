-- What a run promises at status 0, and what it is refused for, where the shelf tells its bytes.
use Rattle.std.specs.Prelude.{◌≡◌, ◌≢◌, ℕ, ◌<◌, List, [], length, IsTrue, Some, Ok, Err}
use Rattle.base_shelf.specs.Shelf.{Files, View}
use Rattle.base_run.specs.Phases.{text_held}
use Rattle.base_run.specs.Rows.{Start}
use Rattle.netlist_trim.specs.Trims.{IsTrimmed, IsUntrimmed}
use Rattle.netlist_trim.specs.declared.fault.TrimFault.{TrimFault}
use Rattle.netlist_stub.specs.declared.fault.StubFault.{StubFault}
use Rattle.cmd_trim.specs.Cause.{status_of}
use Rattle.cmd_trim.specs.Phases.{StubsCome, text_limit}
use Rattle.cmd_trim.specs.Words.{Means, TrimValues}
use Rattle.cmd_trim.specs.declared.cause.Refused.{Refused}
use Rattle.cmd_trim.specs.declared.cause.Refused.TheVariants.{Long, Stub, Text}

-- What is kept of a text: the modules that are named get their stubs, and then each definition that the top needs
-- stands byte for byte and in order.
pub record IsKeptOf (w : TrimValues) (text out : List ℕ) : Type 0 where
  pub stubbed : List ℕ
  pub stubs : StubsCome w.stubs w.supplies text (Ok stubbed)
  pub trimmed : IsTrimmed stubbed w.top out

-- The file that is written has what is kept of the files that are read, joined; no other file changed.
pub record WritesKept (w : TrimValues) (old new : Files) : Type 0 where
  pub out : List ℕ
  pub kept : IsKeptOf w (text_held old w.files) out
  pub written : new w.to ≡ Some out
  pub others : (name : List ℕ) → name ≢ w.to → new name ≡ old name

-- 0: the words mean this, and what is kept is written.
pub record Done (s : Start) (shelf : View) : Type 0 where
  pub words : TrimValues
  pub means : Means s.line words
  pub kept : IsTrue s.shelf_told → WritesKept words s.shelf.files shelf.files

-- The joined text is too long; or it has no stubs; or with them it can't be trimmed.
abbrev pub IsRefusedFor : TrimValues → List ℕ → Refused → Type 0
IsRefusedFor w text Long = text_limit < length text
IsRefusedFor w text (Stub fault) = StubsCome w.stubs w.supplies text (Err fault)
IsRefusedFor w text (Text fault) =
    (stubbed : List ℕ) × StubsCome w.stubs w.supplies text (Ok stubbed) × IsUntrimmed stubbed w.top fault

-- The law: without stubs what is kept, and what a text is refused for, is of the text as it is.
pub record WithoutStubs (w : TrimValues) (text : List ℕ) : Type 0 where
  pub kept : (out : List ℕ) → IsKeptOf w text out → IsTrimmed text w.top out
  pub untrimmed : (fault : TrimFault) → IsRefusedFor w text (Text fault) → IsUntrimmed text w.top fault
  pub never : (fault : StubFault) → IsRefusedFor w text (Stub fault) → ⊥

abbrev pub KeepsTexts : Type 0
KeepsTexts = (w : TrimValues) (text : List ℕ) → w.stubs ≡ [] → WithoutStubs w text

-- 5 and 11: the text is refused for a cause of that status.
pub record RefusesText (s : Start) (status : ℕ) : Type 0 where
  pub words : TrimValues
  pub means : Means s.line words
  pub cause : Refused
  pub status_is : status ≡ status_of cause
  pub refused : IsTrue s.shelf_told → IsRefusedFor words (text_held s.shelf.files words.files) cause
