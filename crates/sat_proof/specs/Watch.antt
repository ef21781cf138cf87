-- Watches: two literals of each clause that isn't true already. An entry is one of the two, those of clause n are 2n
-- and 2n + 1, and each literal has a chain of the entries that watch it. Entry e is written e + 1, and 0 is the end.
use Rattle.std.specs.Prelude.{◌≡◌, ◌≢◌, ◌≤◌, ◌<◌, ◌+◌, ◌-◌, ◌*◌, ◌++◌, ◌⊎◌, ◌∷◌, [], ℕ, true, List, length, slice_set}
use Rattle.std.specs.Prelude.{ℤ, pos}
use Rattle.std.specs.List.{Contains, slice_index_or, sum_by}
use Rattle.sat_proof.specs.Code.{code_of, HasRoom}
use Rattle.sat_proof.specs.Log.{clause_at}
use Rattle.sat_proof.specs.declared.watch.Watch.{Watch}

-- the chain from `head` has entry e
pub data Leads (nexts : List ℕ) (e : ℕ) : ℕ → Type 0 where
  this : (head : ℕ) → head ≡ e + 1 → Leads nexts e head
  later : (head d : ℕ) → head ≡ d + 1 → Leads nexts e (slice_index_or nexts d 0) → Leads nexts e head

-- the chain from `head` ends after `count` entries, all below `bound`
pub data Ends (nexts : List ℕ) (bound : ℕ) : ℕ → ℕ → Type 0 where
  none : (head count : ℕ) → head ≡ 0 → count ≡ 0 → Ends nexts bound head count
  more : (head count d k : ℕ) → head ≡ d + 1 → count ≡ k + 1 → d < bound → Ends nexts bound (slice_index_or nexts d 0) k
      → Ends nexts bound head count

abbrev pub head_of : Watch → ℕ → ℕ
head_of x code = slice_index_or x.heads.items code 0

abbrev pub count_of : Watch → ℕ → ℕ
count_of x code = slice_index_or x.counts.items code 0

-- the literal that entry e watches, 0 where there is none
abbrev pub watched : Watch → ℕ → ℤ
watched x e = slice_index_or x.literals.items e (pos 0)

abbrev pub linked : Watch → ℕ
linked x = sum_by (λ n. n) x.counts.items

-- Each entry that watches a literal stands in the chain of that literal, or in the loose chain from `at`, which has
-- `left` entries.
pub record IsChained (x : Watch) (at left : ℕ) : Type 0 where
  pub ends : (code : ℕ) → Ends x.nexts.items x.used (head_of x code) (count_of x code)
  pub rest : Ends x.nexts.items x.used at left
  pub home : (code e : ℕ) → Leads x.nexts.items e (head_of x code) → (code_of (watched x e) ≡ code)
      × (watched x e ≢ pos 0)
  pub loose : (e : ℕ) → Leads x.nexts.items e at → watched x e ≢ pos 0
  pub apart : (code e : ℕ) → Leads x.nexts.items e (head_of x code) → Leads x.nexts.items e at → ⊥
  pub all : (e : ℕ) → e < x.used → watched x e ≢ pos 0 → Leads x.nexts.items e (head_of x (code_of (watched x e)))
      ⊎ Leads x.nexts.items e at
  pub total : linked x + left ≤ x.used
  pub room : (e : ℕ) → e < x.used → watched x e ≢ pos 0 → HasRoom (length x.heads.items) (watched x e)

-- the first entry of a loose chain
pub record IsLoose (x : Watch) (at : ℕ) : Type 0 where
  pub some : 0 < at
  pub below : at - 1 < x.used
  pub room : HasRoom (length x.heads.items) (watched x (at - 1))
  pub count : count_of x (code_of (watched x (at - 1))) < length x.nexts.items

-- two literals of the clause
pub record IsPair (clause : List ℤ) (a b : ℤ) : Type 0 where
  pub first : Contains clause a
  pub second : Contains clause b
  pub apart : a ≢ b

-- the two entries of clause n watch two of its literals, or none
abbrev pub IsPaired : Watch → List (List ℤ) → ℕ → Type 0
IsPaired x clauses n = ((watched x (2 * n) ≡ pos 0) × (watched x (2 * n + 1) ≡ pos 0))
    ⊎ IsPair (clause_at clauses n) (watched x (2 * n)) (watched x (2 * n + 1))

-- the watches of these clauses, with a loose chain
pub record IsLaced (x : Watch) (clauses : List (List ℤ)) (at left : ℕ) : Type 0 where
  pub chained : IsChained x at left
  pub used : x.used ≡ 2 * length clauses
  pub pairs : (n : ℕ) → n < length clauses → IsPaired x clauses n

-- entry e stands at the head of its literal's chain
pub record IsLink (old new : Watch) (e : ℕ) : Type 0 where
  pub heads : new.heads.items ≡ slice_set old.heads.items (code_of (watched old e)) (e + 1)
  pub counts : new.counts.items ≡ slice_set old.counts.items (code_of (watched old e))
      (count_of old (code_of (watched old e)) + 1)
  pub nexts : new.nexts.items ≡ slice_set old.nexts.items e (head_of old (code_of (watched old e)))
  pub literals : new.literals.items ≡ old.literals.items
  pub used : new.used ≡ old.used
  pub on : new.on ≡ old.on

-- a code's chain is taken off
pub record IsDetached (old new : Watch) (code : ℕ) : Type 0 where
  pub heads : new.heads.items ≡ slice_set old.heads.items code 0
  pub counts : new.counts.items ≡ slice_set old.counts.items code 0
  pub nexts : new.nexts.items ≡ old.nexts.items
  pub literals : new.literals.items ≡ old.literals.items
  pub used : new.used ≡ old.used
  pub on : new.on ≡ old.on

-- entry e watches l
pub record IsMoved (old new : Watch) (e : ℕ) (l : ℤ) : Type 0 where
  pub heads : new.heads.items ≡ old.heads.items
  pub counts : new.counts.items ≡ old.counts.items
  pub nexts : new.nexts.items ≡ old.nexts.items
  pub literals : new.literals.items ≡ slice_set old.literals.items e l
  pub used : new.used ≡ old.used
  pub on : new.on ≡ old.on

-- one more entry, which watches l, stands before the loose chain from `at`
pub record IsStaged (old new : Watch) (at : ℕ) (l : ℤ) : Type 0 where
  pub heads : new.heads.items ≡ old.heads.items
  pub counts : new.counts.items ≡ old.counts.items
  pub nexts : new.nexts.items ≡ slice_set old.nexts.items old.used at
  pub literals : new.literals.items ≡ slice_set old.literals.items old.used l
  pub used : new.used ≡ old.used + 1
  pub on : new.on ≡ old.on

-- two more entries, which watch a and b, or nothing where these are 0
pub record IsAdded (old new : Watch) (a b : ℤ) : Type 0 where
  pub literals : new.literals.items ≡ slice_set (slice_set old.literals.items old.used a) (old.used + 1) b
  pub used : new.used ≡ old.used + 2
  pub left : old.used + 2 ≤ length old.literals.items

-- they were added if the watches are on
abbrev pub IsAddedIfOn : Watch → Watch → ℤ → ℤ → Type 0
IsAddedIfOn old new a b = new.on ≡ true → IsAdded old new a b

-- e and f are the two entries of clause n
abbrev pub AreTwins : ℕ → ℕ → ℕ → Type 0
AreTwins e f n = ((e ≡ 2 * n) × (f ≡ 2 * n + 1)) ⊎ ((e ≡ 2 * n + 1) × (f ≡ 2 * n))

-- one more entry has room, past those in use
pub record IsWider (old new : Watch) : Type 0 where
  pub heads : new.heads.items ≡ old.heads.items
  pub counts : new.counts.items ≡ old.counts.items
  pub nexts : new.nexts.items ≡ old.nexts.items ++ 0 ∷ []
  pub literals : new.literals.items ≡ old.literals.items ++ pos 0 ∷ []
  pub used : new.used ≡ old.used
  pub on : new.on ≡ old.on
