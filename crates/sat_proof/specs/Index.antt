-- The index: for each literal a chain of entries, each of which names a clause that holds the literal.
use Rattle.std.specs.Prelude.{◌≡◌, ◌≤◌, ◌<◌, ◌+◌, ◌++◌, ◌∷◌, [], ℕ, true, List, length, slice_set, ℤ}
use Rattle.std.specs.List.{Contains, slice_index_or}
use Rattle.sat_proof.specs.Code.{code_of}
use Rattle.sat_proof.specs.Log.{clause_at}
use Rattle.sat_proof.specs.declared.index.Index.{Index}

-- The chain from `head` has an entry of clause n. Entry e is written e + 1, and 0 is the end.
pub data Reaches (nexts owners : List ℕ) (n : ℕ) : ℕ → Type 0 where
  here : (head e : ℕ) → head ≡ e + 1 → slice_index_or owners e 0 ≡ n → Reaches nexts owners n head
  further : (head e : ℕ) → head ≡ e + 1 → Reaches nexts owners n (slice_index_or nexts e 0)
      → Reaches nexts owners n head

abbrev pub head_of : Index → ℕ → ℕ
head_of x code = slice_index_or x.heads.items code 0

-- the chain of a code has an entry of clause n
abbrev pub Lists : Index → ℕ → ℕ → Type 0
Lists x code n = Reaches x.nexts.items x.owners.items n (head_of x code)

-- the chain from `head` has an entry of clause n
abbrev pub IsInChain : Index → ℕ → ℕ → Type 0
IsInChain x head n = Reaches x.nexts.items x.owners.items n head

-- chains lead to earlier entries, and the chain of each literal has each clause that holds it
pub record IsIndexed (x : Index) (clauses : List (List ℤ)) : Type 0 where
  pub heads : (code : ℕ) → head_of x code ≤ x.used
  pub nexts : (e : ℕ) → e < x.used → slice_index_or x.nexts.items e 0 ≤ e
  pub owned : (e : ℕ) → e < x.used → slice_index_or x.owners.items e 0 < length clauses
  pub listed : (n : ℕ) (l : ℤ) → n < length clauses → Contains (clause_at clauses n) l → Lists x (code_of l) n

-- the index has the clauses, if it is on
abbrev pub Serves : Index → List (List ℤ) → Type 0
Serves x clauses = x.on ≡ true → IsIndexed x clauses

-- what served some clauses serves them with one more, whose number is the next
abbrev pub ServesMore : Index → Index → ℕ → List ℤ → Type 0
ServesMore old new owner c =
    (clauses : List (List ℤ)) → owner ≡ length clauses → Serves old clauses → Serves new (clauses ++ c ∷ [])

-- one more entry at the head of a code's chain
pub record IsLink (old new : Index) (code owner : ℕ) : Type 0 where
  pub heads : new.heads.items ≡ slice_set old.heads.items code (old.used + 1)
  pub counts : length new.counts.items ≡ length old.counts.items
  pub nexts : new.nexts.items ≡ slice_set old.nexts.items old.used (head_of old code)
  pub owners : new.owners.items ≡ slice_set old.owners.items old.used owner
  pub used : new.used ≡ old.used + 1
  pub on : new.on ≡ old.on
