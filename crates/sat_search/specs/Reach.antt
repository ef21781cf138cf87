-- What a trail stands for during the search.
use Rattle.std.specs.Prelude.{◌≡◌, ℕ, ◌+◌, ◌⊎◌, Bool, true, List, ◌++◌, ◌∷◌, [], ℤ, neg_ℤ, take}
use Rattle.std.specs.List.{All, Contains}
use Rattle.sat_proof.specs.Closed.{IsFalse, IsQuiet, NoneResists}
use Rattle.sat_proof.specs.Code.{is_false}
use Rattle.sat_proof.specs.Guard.{Watches}
use Rattle.sat_proof.specs.Trail.{held, HaveMarks}
use Rattle.sat_proof.specs.declared.propagator.Propagator.{Propagator}
use Rattle.sat_proof.specs.declared.trail.Trail.{Trail}

-- propagation is complete, met no conflict, and the watches serve
pub record IsSettled (p : Propagator) (clauses : List (List ℤ)) : Type 0 where
  pub room : HaveMarks p.trail clauses
  pub quiet : All (IsQuiet (held p.trail)) clauses
  pub read : p.trail.read ≡ p.trail.len
  pub watches : Watches p.watch p.trail.marks.items clauses

-- The marks have the literals of a clause, and otherwise only what these and the clauses propagate: each quiet set that
-- has the clause's literals has all of them, and the complement of none that isn't the clause's.
pub record IsFrom (marks : List Bool) (clauses : List (List ℤ)) (clause : List ℤ) : Type 0 where
  pub assumed : IsFalse (is_false marks) clause
  pub forced : (f : ℤ → Bool) → All (IsQuiet f) clauses → IsFalse f clause → (l : ℤ) → is_false marks l ≡ true
      → (f l ≡ true) × ((f (neg_ℤ l) ≡ true → ⊥) ⊎ Contains clause l)

-- a clause that the marks have, the later ones have with more literals
abbrev pub GoesOnFrom : Trail → Trail → List (List ℤ) → List ℤ → Type 0
GoesOnFrom old new clauses more =
    (c : List ℤ) → IsFrom old.marks.items clauses c → IsFrom new.marks.items clauses (c ++ more)

-- a clause that the marks stand for follows with one literal more
abbrev pub FollowsWith : List Bool → List (List ℤ) → ℤ → Type 0
FollowsWith marks clauses l = (c : List ℤ) → IsFrom marks clauses c → NoneResists clauses (c ++ l ∷ [])

-- a closed set without a conflict that has the clause's literals: the clause doesn't follow
pub record IsFixed (clauses : List (List ℤ)) (clause : List ℤ) (f : ℤ → Bool) : Type 0 where
  pub quiet : All (IsQuiet f) clauses
  pub apart : (l : ℤ) → f l ≡ true → f (neg_ℤ l) ≡ true → ⊥
  pub assumed : IsFalse f clause

-- the conflict comes with the literal at k, behind those of `before`
pub record IsMet (clauses : List (List ℤ)) (before literals : List ℤ) (k : ℕ) : Type 0 where
  pub follows : NoneResists clauses (before ++ take (k + 1) literals)
  pub fixed : (f : ℤ → Bool) × IsFixed clauses (before ++ take k literals) f

-- it comes so behind each clause that the marks stand for
abbrev pub IsMetBehind : List Bool → List (List ℤ) → List ℤ → ℕ → Type 0
IsMetBehind marks clauses literals k = (c : List ℤ) → IsFrom marks clauses c → IsMet clauses c literals k
