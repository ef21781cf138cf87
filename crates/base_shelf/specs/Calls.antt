-- What it means to read a whole file, to write a whole file and to print a whole text.
use Rattle.std.specs.Prelude.{◌≡◌, ◌⊎◌, ℕ, ◌<◌, ◌≤◌, List, ◌++◌, length, Some, Result, IsErrOf, OnOk, OnErr, IfOk}
use Rattle.std.specs.Prelude.{IsTrue, IsSome, Bool, Vec}
use Rattle.std.specs.declared.alloc.Global.{Global}
use Rattle.base_shelf.specs.Shelf.{View, Files, Nothing, Later, SameCounts, Rose, OthersKept, Prefix, held}
use Rattle.base_shelf.specs.Sink.{SinkView}
use Rattle.base_shelf.specs.declared.fault.ReadErr.{ReadErr}
use Rattle.base_shelf.specs.declared.fault.ReadErr.TheVariants.{Fault as ReadFault, TooLong}
use Rattle.base_shelf.specs.declared.fault.WriteErr.{WriteErr}
use Rattle.base_shelf.specs.declared.fault.WriteErr.TheVariants.{Fault as WriteFault}

-- A whole file read, which was there: its text, or a fault with a risen count of that very name. Where any count of
-- faults rose in the call, the answer is Fault; so TooLong comes before any fault.
pub record ReadAll (told : Bool) (name : List ℕ) (limit : ℕ) (old new : View)
    (result : Result (Vec ℕ Global) ReadErr) : Type 0 where
  pub later : Later old new
  pub files : new.files ≡ old.files
  pub written : new.written ≡ old.written
  pub text : IfOk result (λ v. IsTrue told → v.items ≡ held old name)
  pub fits : IfOk result (λ v. length v.items ≤ limit)
  pub there : OnOk result (IsTrue told → IsSome (old.files name))
  pub closed : OnOk result (new.hand ≡ Nothing)
  pub long : IsErrOf result TooLong → IsTrue told → limit < length (held old name)
  pub fault : IsErrOf result ReadFault → Rose (old.reads name) (new.reads name)
  pub kept : (IsErrOf result ReadFault → ⊥) → SameCounts old new

-- Of the name is written what was, or a prefix of the bytes.
abbrev pub HoldsPart : List ℕ → List ℕ → Files → Files → Type 0
HoldsPart name bytes old new = (new name ≡ old name) ⊎ ((part : List ℕ) × (new name ≡ Some part) × Prefix part bytes)

-- A whole file written, and not put under its name yet: whatever the answer, every name holds what it held. Of a file
-- that was created a prefix of the bytes is written; of one that wasn't, what was, or nothing. Where any count rose in
-- the call, the answer is Fault.
pub record WriteAll (told : Bool) (name bytes : List ℕ) (old new : View) (result : Result Unit WriteErr) : Type 0 where
  pub later : Later old new
  pub files : new.files ≡ old.files
  pub others : OthersKept name old.written new.written
  pub whole : OnOk result (IsTrue told → new.written name ≡ Some bytes)
  pub part : IsTrue told → HoldsPart name bytes old.written new.written
  pub closed : OnOk result (new.hand ≡ Nothing)
  pub fault : IsErrOf result WriteFault → Rose (old.writes name) (new.writes name)
  pub kept : (IsErrOf result WriteFault → ⊥) → SameCounts old new

-- The sink gained a prefix of the text.
abbrev pub Gained : List ℕ → SinkView → SinkView → Type 0
Gained text old new = (gained : List ℕ) × (new.bytes ≡ old.bytes ++ gained) × Prefix gained text

-- It gained a prefix of the text, and not all of it.
abbrev pub GainedLess : List ℕ → SinkView → SinkView → Type 0
GainedLess text old new =
    (gained : List ℕ) × (new.bytes ≡ old.bytes ++ gained) × Prefix gained text × (length gained < length text)

-- A whole text printed: the sink gained all of it, or less where the answer is an error. Where the count rose in the
-- call, the answer is Fault.
pub record PrintAll (told : Bool) (text : List ℕ) (old new : SinkView) (result : Result Unit WriteErr) : Type 0 where
  pub later : old.faults ≤ new.faults
  pub whole : OnOk result (IsTrue told → new.bytes ≡ old.bytes ++ text)
  pub part : IsTrue told → Gained text old new
  pub less : OnErr result (IsTrue told → GainedLess text old new)
  pub fault : IsErrOf result WriteFault → Rose old.faults new.faults
  pub kept : (IsErrOf result WriteFault → ⊥) → new.faults ≡ old.faults
