-- What a command comes to before its first output.
use Rattle.std.specs.Prelude.{◌≡◌, ℕ, List, map, Result, Ok, Err, IfOk, IfErr, OnOk, Bool, string_bytes}
use Rattle.base_shelf.specs.Shelf.{View, Nothing, Later, SameCounts, Rose}
use Rattle.base_run.specs.Outputs.{file_of}
use Rattle.base_run.specs.Phases.{Answer, Phases, ComesTo, IsTooLong, LeavesClosed, ReadsNext}
use Rattle.base_run.specs.declared.ready.Ready.{Ready}
use Rattle.base_run.specs.declared.refusal.Refusal.{Refusal}
use Rattle.base_run.specs.declared.refusal.Refusal.TheVariants.{Read, Long, Text, Memory}

abbrev pub answer_of : Ready → Answer
answer_of ready = record { files = map file_of ready.outputs.items; printed = ready.report.bytes.items }

-- The file of this name was to be read, its count rose, and no file is in hand.
pub record IsUnread {A C : Type 0} (told : Bool) (p : Phases A C) (old new : View) (name : List ℕ) : Type 0 where
  pub next : ReadsNext told old.files p name
  pub rose : Rose (old.reads name) (new.reads name)
  pub closed : new.hand ≡ Nothing

-- A text is too long, and no count rose.
pub record IsLongRefused {A C : Type 0} (told : Bool) (p : Phases A C) (old new : View) (cause : C) : Type 0 where
  pub long : IsTooLong told old.files p cause
  pub kept : SameCounts old new

-- The texts come to this cause, and no count rose.
pub record IsRefused {A C : Type 0} (told : Bool) (p : Phases A C) (old new : View) (cause : C) : Type 0 where
  pub comes : ComesTo told old.files p (Err cause)
  pub kept : SameCounts old new
  pub closed : LeavesClosed p old new (Err cause)

abbrev pub Refused : {A C : Type 0} → Bool → Phases A C → View → View → Refusal C → Type 0
Refused told p old new (Read file) = IsUnread told p old new (string_bytes file)
Refused told p old new (Long cause) = IsLongRefused told p old new cause
Refused told p old new (Text cause) = IsRefused told p old new cause
Refused told p old new Memory = SameCounts old new

-- The texts of the shelf, by the phases: what is found, seen by a view, or a refusal. No file changed, and none was
-- written.
pub record Prepared {A C X : Type 0} (told : Bool) (p : Phases A C) (seen : X → A) (old new : View)
    (result : Result X (Refusal C)) : Type 0 where
  pub later : Later old new
  pub files : new.files ≡ old.files
  pub written : new.written ≡ old.written
  pub comes : IfOk result (λ x. ComesTo told old.files p (Ok (seen x)))
  pub kept : OnOk result (SameCounts old new)
  pub closed : IfOk result (λ x. LeavesClosed p old new (Ok (seen x)))
  pub refused : IfErr result (Refused told p old new)

-- So with no call on the shelf.
abbrev pub PreparedAlone : {A C X : Type 0} → Phases A C → (X → A) → Result X (Refusal C) → Type 0
PreparedAlone p seen result = (told : Bool) (v : View) → Prepared told p seen v v result

-- What was found so far, judged.
abbrev pub IsJudgedBy : {B C E : Type 0} → (Result B E → Type 0) → (E → C) → Refusal C → Type 0
IsJudgedBy comes cause (Read file) = ⊥
IsJudgedBy comes cause (Long other) = ⊥
IsJudgedBy {B} {C} {E} comes cause (Text other) = (e : E) × comes (Err e) × (other ≡ cause e)
IsJudgedBy comes cause Memory = Unit {0}

pub record Judged {B C E X : Type 0} (comes : Result B E → Type 0) (cause : E → C) (seen : X → B)
    (result : Result X (Refusal C)) : Type 0 where
  pub found : IfOk result (λ x. comes (Ok (seen x)))
  pub refused : IfErr result (IsJudgedBy comes cause)
