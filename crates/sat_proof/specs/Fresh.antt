-- Whether a clause is new among others.
use Rattle.std.specs.Prelude.{◌⊎◌, ℕ, Bool, List, ℤ}
use Rattle.std.specs.List.{All, Contains}
use Rattle.sat_proof.specs.Closed.{IsFalse}
use Rattle.sat_proof.specs.Code.{is_false}
use Rattle.sat_proof.specs.Log.{AreSameSet, HasNoComplements, clause_at}

-- no tautology, and equal to none of the clauses as a set
pub record IsNew (clauses : List (List ℤ)) (clause : List ℤ) : Type 0 where
  pub no_tautology : HasNoComplements clause
  pub different : All (λ d. AreSameSet clause d → ⊥) clauses

-- a tautology, or one of the clauses lies within it
abbrev pub IsStale : List (List ℤ) → List ℤ → Type 0
IsStale clauses clause = (HasNoComplements clause → ⊥) ⊎ ((d : List ℤ) × Contains clauses d × All (Contains clause) d)

-- the marks have all literals of one of the clauses
abbrev pub IsCovered : List Bool → List (List ℤ) → Type 0
IsCovered marks clauses = (d : List ℤ) × Contains clauses d × IsFalse (is_false marks) d

abbrev pub IsUncovered : List Bool → List (List ℤ) → Type 0
IsUncovered marks clauses = All (λ d. IsFalse (is_false marks) d → ⊥) clauses

-- no clause that holds these literals has all of its own marked
abbrev pub IsUnmatched : List Bool → List (List ℤ) → List ℤ → Type 0
IsUnmatched marks clauses literals = All (λ d. All (Contains d) literals → IsFalse (is_false marks) d → ⊥) clauses

-- no clause with one of these numbers has all its literals marked
abbrev pub AreUncovered : List Bool → List (List ℤ) → (ℕ → Type 0) → Type 0
AreUncovered marks clauses Among = (n : ℕ) → Among n → IsFalse (is_false marks) (clause_at clauses n) → ⊥
