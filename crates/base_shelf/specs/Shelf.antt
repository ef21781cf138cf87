-- What is seen of a shelf of named files, and what each of its calls does to that.
use Rattle.std.specs.Prelude.{◌≡◌, ◌⊎◌, ℕ, ◌+◌, ◌^◌, ◌-◌, ◌<◌, ◌≤◌, min, List, [], ◌++◌, length, take, Option, Some}
use Rattle.std.specs.Prelude.{None, Result, Ok, Err, IsErrOf, OnErr, OnOk, IfOk, IsTrue, IsSome, Bool}
use Rattle.base_shelf.specs.declared.fault.IoErr.{IoErr}
use Rattle.base_shelf.specs.declared.fault.IoErr.TheVariants.{Failed, Memory}

-- A count of faults, which was a number of 64 bits, rose, or stands at the end of its type.
pub record Rose (before now : ℕ) : Type 0 where
  pub up : min (before + 1) (2 ^ 64 - 1) ≤ now
  pub end : before ≤ 2 ^ 64 - 1

-- The file in hand: none, an opened one or a created one, by its name.
pub data Hand : Type 0 where
  Nothing : Hand
  Opened : List ℕ → Hand
  Created : List ℕ → Hand

-- The map from names to bytes.
abbrev pub Files : Type 0
Files = List ℕ → Option (List ℕ)

-- What is seen of a shelf: a count of faults of reading and one of writing for each name, the file in hand, what stands
-- under each name, what was written of each since its file was created, be it put under the name or not, the bytes of
-- the opened file that aren't read yet, and the texts that the shelf was made over, which no call changes.
pub record View : Type 0 where
  pub reads : List ℕ → ℕ
  pub writes : List ℕ → ℕ
  pub hand : Hand
  pub files : Files
  pub written : Files
  pub unread : List ℕ
  pub begun : Files

abbrev pub bytes_of : Option (List ℕ) → List ℕ
bytes_of None = []
bytes_of (Some bytes) = bytes

-- The bytes under a name: none where there is no such file.
abbrev pub held : View → List ℕ → List ℕ
held v name = bytes_of (v.files name)

-- The bytes that were written of a name: none where there was no such file.
abbrev pub gathered : View → List ℕ → List ℕ
gathered v name = bytes_of (v.written name)

-- No count of faults fell, and the texts that the shelf was made over are what they were.
pub record Later (old new : View) : Type 0 where
  pub reads : (name : List ℕ) → old.reads name ≤ new.reads name
  pub writes : (name : List ℕ) → old.writes name ≤ new.writes name
  pub begun : new.begun ≡ old.begun

-- Every count of faults is as it was.
pub record SameCounts (old new : View) : Type 0 where
  pub reads : (name : List ℕ) → new.reads name ≡ old.reads name
  pub writes : (name : List ℕ) → new.writes name ≡ old.writes name

-- Only a call that answers Failed raises a count of faults.
abbrev pub KeptUnless : IoErr → Type 0 → Type 0
KeptUnless Failed same = Unit {0}
KeptUnless Memory same = same

abbrev pub KeepsCounts : {T : Type 0} → View → View → Result T IoErr → Type 0
KeepsCounts old new (Ok _) = SameCounts old new
KeepsCounts old new (Err e) = KeptUnless e (SameCounts old new)

-- Nothing changed but of this name.
abbrev pub OthersKept : List ℕ → Files → Files → Type 0
OthersKept name old new = (other : List ℕ) → (other ≡ name → ⊥) → new other ≡ old other

-- The first text stands at the front of the second.
pub record Prefix (part whole : List ℕ) : Type 0 where
  pub rest : List ℕ
  pub is : part ++ rest ≡ whole

-- `open_file`: the named file was there, is in hand, and all its bytes are unread; or none is in hand.
pub record OpenStep (told : Bool) (name : List ℕ) (old new : View) (result : Result Unit IoErr) : Type 0 where
  pub later : Later old new
  pub counts : KeepsCounts old new result
  pub files : new.files ≡ old.files
  pub written : new.written ≡ old.written
  pub ok : OnOk result (new.hand ≡ Opened name)
  pub there : OnOk result (IsTrue told → IsSome (old.files name))
  pub unread : OnOk result (IsTrue told → new.unread ≡ held old name)
  pub err : OnErr result (new.hand ≡ Nothing)
  pub fault : IsErrOf result Failed → Rose (old.reads name) (new.reads name)

-- `read`: the next unread bytes stand at the front of the buffer; it gives none only at the end of the file,
-- and with no opened file in hand. A failed one leaves the unread bytes.
pub record ReadStep (told : Bool) (old new : View) (buffer : List ℕ) (result : Result ℕ IoErr) : Type 0 where
  pub later : Later old new
  pub counts : KeepsCounts old new result
  pub files : new.files ≡ old.files
  pub written : new.written ≡ old.written
  pub hand : new.hand ≡ old.hand
  pub bound : IfOk result (λ n. n ≤ length buffer)
  pub bytes : (name : List ℕ) → old.hand ≡ Opened name
      → IfOk result (λ n. IsTrue told → old.unread ≡ take n buffer ++ new.unread)
  pub end : (name : List ℕ) → old.hand ≡ Opened name
      → IfOk result (λ n. n ≡ 0 → 0 < length buffer → IsTrue told → old.unread ≡ [])
  pub idle : ((name : List ℕ) → old.hand ≡ Opened name → ⊥) → IfOk result (λ n. n ≡ 0)
  pub err : OnErr result (IsTrue told → new.unread ≡ old.unread)
  pub fault : IsErrOf result Failed → (name : List ℕ) × (old.hand ≡ Opened name)
      × Rose (old.reads name) (new.reads name)

-- `create_file`: nothing is written of the name, whose file is in hand; or none is in hand, and what was written of the
-- name may be gone. What stands under the names stays.
pub record CreateStep (told : Bool) (name : List ℕ) (old new : View) (result : Result Unit IoErr) : Type 0 where
  pub later : Later old new
  pub counts : KeepsCounts old new result
  pub files : new.files ≡ old.files
  pub others : OthersKept name old.written new.written
  pub ok : OnOk result (new.hand ≡ Created name)
  pub empty : OnOk result (IsTrue told → new.written name ≡ Some [])
  pub err : OnErr result (new.hand ≡ Nothing)
  pub kept : OnErr result (IsTrue told → (new.written name ≡ old.written name) ⊎ (new.written name ≡ Some []))
  pub fault : IsErrOf result Failed → Rose (old.writes name) (new.writes name)

-- `write`: the file in hand gains the first of the bytes, at least one where there are any. What stands under the names
-- stays.
pub record WriteStep (told : Bool) (name : List ℕ) (old new : View) (bytes : List ℕ)
    (result : Result ℕ IoErr) : Type 0 where
  pub later : Later old new
  pub counts : KeepsCounts old new result
  pub hand : new.hand ≡ old.hand
  pub files : new.files ≡ old.files
  pub others : OthersKept name old.written new.written
  pub bound : IfOk result (λ n. n ≤ length bytes)
  pub some : IfOk result (λ n. 0 < length bytes → 0 < n)
  pub wrote : IfOk result (λ n. IsTrue told → new.written name ≡ Some (gathered old name ++ take n bytes))
  pub err : OnErr result (IsTrue told → new.written name ≡ old.written name)
  pub fault : IsErrOf result Failed → Rose (old.writes name) (new.writes name)

-- `write` with a created file in hand.
abbrev pub Writes : Bool → View → View → List ℕ → Result ℕ IoErr → Type 0
Writes told old new bytes result = (name : List ℕ) → old.hand ≡ Created name → WriteStep told name old new bytes result

-- `close_file`: no file is in hand afterwards, whatever it answers.
pub record CloseStep (old new : View) (result : Result Unit IoErr) : Type 0 where
  pub later : Later old new
  pub counts : KeepsCounts old new result
  pub files : new.files ≡ old.files
  pub written : new.written ≡ old.written
  pub hand : new.hand ≡ Nothing
  pub fault : IsErrOf result Failed → ((name : List ℕ) × (old.hand ≡ Opened name)
      × Rose (old.reads name) (new.reads name))
      ⊎ ((name : List ℕ) × (old.hand ≡ Created name) × Rose (old.writes name) (new.writes name))

-- `put_file`: what was written of the name stands under it. After an error it does too, or what stood there stays.
pub record PutStep (told : Bool) (name : List ℕ) (old new : View) (result : Result Unit IoErr) : Type 0 where
  pub later : Later old new
  pub counts : KeepsCounts old new result
  pub hand : new.hand ≡ Nothing
  pub written : new.written ≡ old.written
  pub others : OthersKept name old.files new.files
  pub ok : OnOk result (IsTrue told → new.files name ≡ Some (gathered old name))
  pub err : OnErr result (IsTrue told → (new.files name ≡ old.files name) ⊎ (new.files name ≡ Some (gathered old name)))
  pub fault : IsErrOf result Failed → Rose (old.writes name) (new.writes name)

-- `discard`: no file is in hand, and what stands under the names stays.
pub record DiscardStep (old new : View) : Type 0 where
  pub later : Later old new
  pub counts : SameCounts old new
  pub hand : new.hand ≡ Nothing
  pub files : new.files ≡ old.files
  pub written : new.written ≡ old.written
