-- Decisions. Variable n + 1 is number n.
use Rattle.std.specs.Prelude.{◌≡◌, ◌≤◌, ◌<◌, ◌+◌, ◌*◌, ◌⊎◌, ℕ, Bool, true, false, List, ℤ, pos, neg_ℤ}
use Rattle.std.specs.List.{slice_index_or}
use Rattle.sat_proof.specs.Closed.{NoneResists}
use Rattle.sat_proof.specs.Trail.{held}
use Rattle.sat_proof.specs.declared.trail.Trail.{Trail}
use Rattle.sat_search.specs.Learn.{IsCandidate}

-- the literal of variable n + 1, or its complement
abbrev pub IsLiteralOf : ℕ → ℤ → Type 0
IsLiteralOf n l = (l ≡ pos (n + 1)) ⊎ (l ≡ neg_ℤ (pos (n + 1)))

-- the variable has a value
abbrev pub HasValue : List Bool → ℕ → Type 0
HasValue marks n = (slice_index_or marks (2 * n + 2) false ≡ true) ⊎ (slice_index_or marks (2 * n + 3) false ≡ true)

-- it has none
pub record HasNone (marks : List Bool) (n : ℕ) : Type 0 where
  pub first : slice_index_or marks (2 * n + 2) false ≡ false
  pub second : slice_index_or marks (2 * n + 3) false ≡ false

-- a given number of the first variables have values
abbrev pub AreValued : List Bool → ℕ → Type 0
AreValued marks count = (n : ℕ) → n < count → HasValue marks n

-- the values that the marks give to a given number of variables
abbrev pub AreValues : List Bool → ℕ → List Bool → Type 0
AreValues marks vars values =
    (n : ℕ) → n < vars → slice_index_or values n false ≡ slice_index_or marks (2 * n + 3) false

-- n is the first variable from `from` on that has no value
pub record IsNext (marks : List Bool) (from vars n : ℕ) : Type 0 where
  pub low : from ≤ n
  pub high : n < vars
  pub earlier : (m : ℕ) → from ≤ m → m < n → HasValue marks m
  pub here : HasNone marks n

-- The decisions led to a conflict. The trail is that before the last of them.
pub record IsConflict (t : Trail) (clauses : List (List ℤ)) (decisions : List ℤ) : Type 0 where
  pub follows : NoneResists clauses decisions
  pub candidate : IsCandidate clauses decisions (held t)
