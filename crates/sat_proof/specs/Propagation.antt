-- What propagation does to the trail.
use Rattle.std.specs.Prelude.{◌≡◌, ◌≤◌, ◌<◌, ◌⊎◌, ℕ, Bool, true, false, List, length, ℤ, neg_ℤ}
use Rattle.std.specs.List.{All, Contains}
use Rattle.sat_proof.specs.Closed.{IsQuiet, IsFalse}
use Rattle.sat_proof.specs.Code.{code_of, is_false, IsConsistent, IsMarkedWithin}
use Rattle.sat_proof.specs.Log.{clause_at}
use Rattle.sat_proof.specs.Status.{IsOnlyOpen, literal_at}
use Rattle.sat_proof.specs.Trail.{held, HasSince, IsPush, StaysOver}
use Rattle.sat_proof.specs.declared.trail.Trail.{Trail}

-- The marks grow, and stay within each quiet set that has the old ones; there no new one is in it together with its
-- complement.
pub record IsGrowth (old new : List Bool) (clauses : List (List ℤ)) : Type 0 where
  pub sized : length new ≡ length old
  pub consistent : IsConsistent new
  pub grows : IsMarkedWithin old (is_false new)
  pub within : (f : ℤ → Bool) → All (IsQuiet f) clauses → IsMarkedWithin old f → IsMarkedWithin new f
  pub forced : (f : ℤ → Bool) → All (IsQuiet f) clauses → IsMarkedWithin old f → (l : ℤ) → is_false new l ≡ true
      → is_false old l ≡ false
      → f (neg_ℤ l) ≡ true → ⊥

-- no quiet set has the marks
abbrev pub AreRefuted : List Bool → List (List ℤ) → Type 0
AreRefuted marks clauses = (f : ℤ → Bool) → All (IsQuiet f) clauses → IsMarkedWithin marks f → ⊥

-- each quiet set has the marks, and none of their complements
abbrev pub AreForced : List Bool → List (List ℤ) → Type 0
AreForced marks clauses = (f : ℤ → Bool) → All (IsQuiet f) clauses → (l : ℤ) → is_false marks l ≡ true
    → (f l ≡ true) × (f (neg_ℤ l) ≡ true → ⊥)

-- the literals are false, and nothing else is new
pub record AreAssumed (old new : List Bool) (literals : List ℤ) : Type 0 where
  pub sized : length new ≡ length old
  pub consistent : IsConsistent new
  pub grows : IsMarkedWithin old (is_false new)
  pub exact : (l : ℤ) → is_false new l ≡ true → (is_false old l ≡ true) ⊎ Contains literals l
  pub all : IsFalse (is_false new) literals

-- the complement of one of the literals is false already, or is one of them
abbrev pub DoClash : List Bool → List ℤ → Type 0
DoClash old literals = (l : ℤ) × Contains literals l × ((is_false old (neg_ℤ l) ≡ true) ⊎ Contains literals (neg_ℤ l))

-- a look at a clause left the trail alone, since the clause is quiet, or added the complement of its only open literal
abbrev pub IsVisit : Trail → Trail → List ℤ → Type 0
IsVisit old new clause = ((new ≡ old) × IsQuiet (held old) clause)
    ⊎ ((k : ℕ) × IsOnlyOpen old.marks.items clause (length clause) k
    × IsPush old new (code_of (neg_ℤ (literal_at clause k))))

-- Propagation is under way: each clause is quiet unless it still waits to be looked at, or one of its literals came at
-- place
-- `from` or later.
pub record IsRunning (old now : Trail) (clauses : List (List ℤ)) (from : ℕ) (Waits : ℕ → Type 0) : Type 0 where
  pub growth : IsGrowth old.marks.items now.marks.items clauses
  pub low : from ≤ now.len
  pub over : StaysOver old now
  pub settled : (n : ℕ) → n < length clauses → (HasSince now from (clause_at clauses n) → ⊥) → (Waits n → ⊥)
      → IsQuiet (held now) (clause_at clauses n)

-- What the clauses propagate with nothing assumed is on the trail, all of it read.
pub record IsBase (t : Trail) (clauses : List (List ℤ)) : Type 0 where
  pub forced : AreForced t.marks.items clauses
  pub quiet : All (IsQuiet (held t)) clauses
  pub read : t.read ≡ t.len
