-- The texts that a command reads: the files of some names, joined.
use Rattle.std.specs.Prelude.{◌≡◌, ℕ, ◌<◌, ◌≤◌, List, [], ◌∷◌, length, Contains, IsTrue, Bool, Vec}
use Rattle.std.specs.Prelude.{Option, Some, None, Result, IfOk, IfErr, OnOk, IfSome, IsSome, string_bytes}
use Rattle.std.specs.declared.alloc.Global.{Global}
use Rattle.base_shelf.specs.Shelf.{View, Nothing, Later, SameCounts, Rose, held}
use Rattle.base_run.specs.Phases.{IsLong, IsRead, put_after}
use Rattle.base_run.specs.declared.refusal.Refusal.{Refusal}
use Rattle.base_run.specs.declared.refusal.Refusal.TheVariants.{Read, Long, Text, Memory}

-- A text, or none where it is longer than that.
abbrev pub IsTextWithin : ℕ → Option (Vec ℕ Global) → List ℕ → Type 0
IsTextWithin limit (Some v) text = (v.items ≡ text) × (length v.items ≤ limit)
IsTextWithin limit None text = limit < length text

-- A text and the next one, each kept or too long, are kept or too long as one text.
abbrev pub Joins : ℕ → ℕ → Option (Vec ℕ Global) → Option (Vec ℕ Global) → Option (Vec ℕ Global) → Type 0
Joins limit position text part whole =
    (before : List (List ℕ)) (so_far more : List ℕ) → length before ≡ position → (position ≡ 0 → so_far ≡ [])
    → IsTextWithin limit text so_far → IsTextWithin limit part more
    → IsTextWithin limit whole (put_after before so_far more)

-- A call on one of the files failed, its count rose, and no file is in hand.
pub record InputFails (names : List (List ℕ)) (old new : View) (name : List ℕ) : Type 0 where
  pub named : Contains names name
  pub rose : Rose (old.reads name) (new.reads name)
  pub closed : new.hand ≡ Nothing

module _ {C : Type 0} (told : Bool) where
  abbrev pub FileRefused : List ℕ → View → View → Refusal C → Type 0
  FileRefused name old new (Read file) = InputFails (name ∷ []) old new (string_bytes file)
  FileRefused name old new (Long cause) = ⊥
  FileRefused name old new (Text cause) = ⊥
  FileRefused name old new Memory = SameCounts old new

  -- A file read: its text, or none where it is longer than that.
  pub record FileRead (name : List ℕ) (limit : ℕ) (old new : View) (result : Result (Option (Vec ℕ Global))
      (Refusal C)) : Type 0 where
    pub later : Later old new
    pub files : new.files ≡ old.files
    pub written : new.written ≡ old.written
    pub text : IfOk result (λ part. IsTrue told → IsTextWithin limit part (held old name))
    pub there : IfOk result (λ part. IsSome part → IsTrue told → IsSome (old.files name))
    pub fits : IfOk result (λ part. IfSome part (λ v. length v.items ≤ limit))
    pub kept : OnOk result (SameCounts old new)
    pub closed : IfOk result (λ part. IsSome part → new.hand ≡ Nothing)
    pub refused : IfErr result (FileRefused name old new)

  -- What the files of these names are refused for, where the cause is that of a long text.
  abbrev pub TextUnread : List (List ℕ) → ℕ → C → View → View → Refusal C → Type 0
  TextUnread names limit long old new (Read file) = InputFails names old new (string_bytes file)
  TextUnread names limit long old new (Long cause) = IsLong told old.files names limit × (cause ≡ long)
      × SameCounts old new
  TextUnread names limit long old new (Text cause) = ⊥
  TextUnread names limit long old new Memory = SameCounts old new

  -- The files of these names read, of at most so many bytes joined.
  pub record TextRead (names : List (List ℕ)) (limit : ℕ) (long : C) (old new : View) (result : Result (Vec ℕ Global)
      (Refusal C)) : Type 0 where
    pub later : Later old new
    pub files : new.files ≡ old.files
    pub written : new.written ≡ old.written
    pub text : IfOk result (λ v. IsRead told old.files names limit v.items)
    pub kept : OnOk result (SameCounts old new)
    pub closed : OnOk result (new.hand ≡ Nothing)
    pub refused : IfErr result (TextUnread names limit long old new)
