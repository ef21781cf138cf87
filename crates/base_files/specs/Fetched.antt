-- What the reads of files gave.
use Rattle.std.specs.Prelude.{◌≡◌, ◌≤◌, ℕ, List, Some, true, length, is_some, Contains}
use Rattle.base_shelf.specs.NamedFiles.{files_of}
use Rattle.base_shelf.specs.Shelf.{Files}
use Rattle.base_trace.specs.Record.{Traced, traced}
use Rattle.base_files.specs.declared.fetched.Fetched.{Fetched}

-- The reads of this name gave these bytes since it was opened; and then no more, unless they are more than the limit.
pub record IsGiven (limit : ℕ) (gave ended : List Traced) (name bytes : List ℕ) : Type 0 where
  pub is : traced gave name ≡ Some bytes
  pub whole : length bytes ≤ limit → traced ended name ≡ Some bytes

-- Each text is what the reads of its name gave.
abbrev pub AreGiven : ℕ → List Traced → List Traced → Files → Type 0
AreGiven limit gave ended texts =
    (name bytes : List ℕ) → texts name ≡ Some bytes → IsGiven limit gave ended name bytes

abbrev pub IsFetched : Fetched → Type 0
IsFetched f = AreGiven f.limit f.gave.entries f.ended.entries (files_of f.texts)

-- No other names have a text.
abbrev pub AreAmong : List (List ℕ) → Files → Type 0
AreAmong names texts = (name : List ℕ) → is_some (texts name) ≡ true → Contains names name

abbrev pub HasAmong : List (List ℕ) → Fetched → Type 0
HasAmong names f = AreAmong names (files_of f.texts)

-- Texts came in of no other names than these.
abbrev pub AddsAmong : List (List ℕ) → Fetched → Fetched → Type 0
AddsAmong names old new = (all : List (List ℕ)) → ((name : List ℕ) → Contains names name → Contains all name)
    → HasAmong all old → HasAmong all new

-- Nothing was noted of other names.
pub record OthersTraced (name : List ℕ) (old new : List Traced) : Type 0 where
  pub kept : (other : List ℕ) → (other ≡ name → ⊥) → traced new other ≡ traced old other
