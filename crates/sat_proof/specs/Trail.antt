-- The trail: marks of the literals that are held false, and their codes in the order in which they came.
use Rattle.std.specs.Prelude.{◌≡◌, ◌≤◌, ◌<◌, ◌+◌, ◌⊎◌, ℕ, Bool, true, false, List, length, slice_set, ℤ}
use Rattle.std.specs.List.{All, Contains, slice_index_or}
use Rattle.sat_proof.specs.Code.{code_of, is_false, AreClear, HasRoom, HaveRoom}
use Rattle.sat_proof.specs.declared.trail.Trail.{Trail}

abbrev pub held : Trail → ℤ → Bool
held t l = is_false t.marks.items l

abbrev pub code_at : Trail → ℕ → ℕ
code_at t j = slice_index_or t.codes.items j 0

-- each literal has a mark, and isn't 0
abbrev pub HasMarks : Trail → List ℤ → Type 0
HasMarks t literals = All (HasRoom (length t.marks.items)) literals

-- each literal of the clauses has a mark
abbrev pub HaveMarks : Trail → List (List ℤ) → Type 0
HaveMarks t clauses = HaveRoom (length t.marks.items) clauses

-- the clause has a literal that came at place `from` or later
abbrev pub HasSince : Trail → ℕ → List ℤ → Type 0
HasSince t from clause = (j : ℕ) × (from ≤ j) × (j < t.len) × ((m : ℤ) × Contains clause m × (code_at t j ≡ code_of m))

-- one more literal is false
pub record IsPush (old new : Trail) (code : ℕ) : Type 0 where
  pub marks : new.marks.items ≡ slice_set old.marks.items code true
  pub codes : new.codes.items ≡ slice_set old.codes.items old.len code
  pub len : new.len ≡ old.len + 1
  pub read : new.read ≡ old.read

-- the trail has the marks of `base`, and those of its codes from place b on, which are new
pub record IsOver (base : List Bool) (b : ℕ) (t : Trail) : Type 0 where
  pub sized : length t.marks.items ≡ length base
  pub low : b ≤ t.len
  pub kept : (k : ℕ) → slice_index_or base k false ≡ true → slice_index_or t.marks.items k false ≡ true
  pub traced : (k : ℕ) → slice_index_or t.marks.items k false ≡ true
      → (slice_index_or base k false ≡ true) ⊎ ((j : ℕ) × (b ≤ j) × (j < t.len) × (code_at t j ≡ k))
  pub «new» : (j : ℕ) → b ≤ j → j < t.len → (code_at t j < length t.marks.items)
      × (slice_index_or base (code_at t j) false ≡ false)

-- what the old trail was over, the new one is over
abbrev pub StaysOver : Trail → Trail → Type 0
StaysOver old new = (base : List Bool) (b : ℕ) → IsOver base b old → IsOver base b new

-- the same marks, and the same places
pub record IsSameTrail (old new : Trail) : Type 0 where
  pub marks : new.marks.items ≡ old.marks.items
  pub len : new.len ≡ old.len
  pub read : new.read ≡ old.read

-- nothing is false
pub record IsEmpty (t : Trail) : Type 0 where
  pub clear : AreClear t.marks.items
  pub len : t.len ≡ 0
  pub read : t.read ≡ 0

-- one more code is read
pub record IsRead (old new : Trail) : Type 0 where
  pub marks : new.marks.items ≡ old.marks.items
  pub codes : new.codes.items ≡ old.codes.items
  pub len : new.len ≡ old.len
  pub read : new.read ≡ old.read + 1

-- the last code goes
pub record IsPop (old new : Trail) : Type 0 where
  pub len : old.len ≡ new.len + 1
  pub codes : new.codes.items ≡ old.codes.items
  pub marks : new.marks.items ≡ slice_set old.marks.items (code_at old new.len) false

-- what `undo` has done so far
pub record IsUndoing (old now : Trail) (b : ℕ) : Type 0 where
  pub low : b ≤ now.len
  pub high : now.len ≤ old.len
  pub codes : now.codes.items ≡ old.codes.items
  pub sized : length now.marks.items ≡ length old.marks.items
  pub over : (base : List Bool) → IsOver base b old → IsOver base b now
