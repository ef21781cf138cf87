-- Logs: lists of clauses, each of which follows from a query's clauses and the log's earlier ones.
use Rattle.std.specs.Prelude.{◌≡◌, ◌≤◌, ◌<◌, ◌+◌, ℕ, List, [], ◌++◌, length, ℤ, neg_ℤ, take, nat_abs}
use Rattle.std.specs.List.{All, Contains, slice_index_or}
use Rattle.sat_proof.specs.Follows.{Follows, IsTight}

abbrev pub clause_at : List (List ℤ) → ℕ → List ℤ
clause_at clauses k = slice_index_or clauses k []

-- what clause k of a log may follow from: the query's clauses and the log's earlier ones
abbrev pub before : List (List ℤ) → List (List ℤ) → ℕ → List (List ℤ)
before query log k = query ++ take k log

-- clause k of the log follows
abbrev pub DoesFollow : List (List ℤ) → List (List ℤ) → ℕ → Type 0
DoesFollow query log k = Follows (before query log k) (clause_at log k)

-- its last clause is empty
abbrev pub EndsEmpty : List (List ℤ) → Type 0
EndsEmpty log = (n : ℕ) × (length log ≡ n + 1) × (clause_at log n ≡ [])

-- A log refutes a query where each of its clauses follows and the last one is empty.
pub record Refutes (query log : List (List ℤ)) : Type 0 where
  pub each : (k : ℕ) → k < length log → DoesFollow query log k
  pub ends : EndsEmpty log

-- the same literals
abbrev pub AreSameSet : List ℤ → List ℤ → Type 0
AreSameSet c d = All (Contains d) c × All (Contains c) d

abbrev pub HasNoComplements : List ℤ → Type 0
HasNoComplements clause = All (λ l. Contains clause (neg_ℤ l) → ⊥) clause

-- A clause of a log is fresh where it isn't empty, is no tautology, equals no earlier clause as a set, follows and is
-- tight.
pub record IsFresh (clauses : List (List ℤ)) (clause : List ℤ) : Type 0 where
  pub filled : 0 < length clause
  pub no_tautology : HasNoComplements clause
  pub «new» : All (λ d. AreSameSet clause d → ⊥) clauses
  pub follows : Follows clauses clause
  pub tight : IsTight clauses clause

-- clause k of the log is fresh
abbrev pub IsFreshAt : List (List ℤ) → List (List ℤ) → ℕ → Type 0
IsFreshAt query log k = IsFresh (before query log k) (clause_at log k)

-- A log is fresh where each of its clauses is.
abbrev pub AreFresh : List (List ℤ) → List (List ℤ) → Type 0
AreFresh query log = (k : ℕ) → k < length log → IsFreshAt query log k

-- Of `count` lines, numbered from 1, this is the first that breaks the rules; or each line keeps them, the end breaks
-- its own, and this is the line after the last.
pub data IsFirstBad (Keeps : ℕ → Type 0) (count : ℕ) (End : Type 0) (line : ℕ) : Type 0 where
  inside : (k : ℕ) → line ≡ k + 1 → k < count → ((j : ℕ) → j < k → Keeps j) → (Keeps k → ⊥)
      → IsFirstBad Keeps count End line
  ending : line ≡ count + 1 → ((j : ℕ) → j < count → Keeps j) → (End → ⊥) → IsFirstBad Keeps count End line

-- the first line at which the log doesn't refute
abbrev pub IsBadLine : List (List ℤ) → List (List ℤ) → ℕ → Type 0
IsBadLine query log line = IsFirstBad (DoesFollow query log) (length log) (EndsEmpty log) line

-- the first line at which the log isn't fresh, or hasn't `limit` clauses
abbrev pub IsStaleLine : List (List ℤ) → List (List ℤ) → ℕ → ℕ → Type 0
IsStaleLine query log limit line = IsFirstBad (IsFreshAt query log) (length log) (length log ≡ limit) line

-- no variable is over v
abbrev pub Fit : ℕ → List (List ℤ) → Type 0
Fit v clauses = All (λ c. All (λ l. nat_abs l ≤ v) c) clauses
