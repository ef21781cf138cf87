-- How a clause that follows is made tight. It comes in two parts: literals that are known to be needed, and the rest.
use Rattle.std.specs.Prelude.{◌≡◌, ◌≢◌, ℕ, ◌<◌, ◌-◌, Bool, true, false, List, ◌++◌, length, ℤ, neg_ℤ, take}
use Rattle.std.specs.List.{All, Contains}
use Rattle.sat_proof.specs.Closed.{IsFalse, IsQuiet, NoneResists}
use Rattle.sat_proof.specs.Code.{HasRoom, is_false}
use Rattle.sat_proof.specs.Status.{literal_at}
use Rattle.sat_proof.specs.Trail.{HasMarks}
use Rattle.sat_proof.specs.declared.trail.Trail.{Trail}
use Rattle.sat_search.specs.Reach.{IsFixed, IsMet}
use Rattle.sat_search.specs.declared.tighten.Found.{Found}
use Rattle.sat_search.specs.declared.tighten.Found.TheVariants.{Nowhere, Kept, Rest}

-- a closed set without a conflict that has all literals but the one at j: this is needed
pub record IsSparing (clauses : List (List ℤ)) (kept rest : List ℤ) (j : ℕ) (f : ℤ → Bool) : Type 0 where
  pub quiet : All (IsQuiet f) clauses
  pub apart : (l : ℤ) → f l ≡ true → f (neg_ℤ l) ≡ true → ⊥
  pub others : (m : ℕ) → m < length kept → m ≢ j → f (literal_at kept m) ≡ true
  pub rest_false : IsFalse f rest

-- each literal that is kept is needed
abbrev pub AreNeeded : List (List ℤ) → List ℤ → List ℤ → Type 0
AreNeeded clauses kept rest = (j : ℕ) → j < length kept → (f : ℤ → Bool) × IsSparing clauses kept rest j f

-- where the conflict comes: nowhere, with a literal that is kept, or with the rest's literal at k
abbrev pub IsFoundConflict : List (List ℤ) → List ℤ → List ℤ → Found → Type 0
IsFoundConflict clauses kept rest Nowhere = (f : ℤ → Bool) × IsFixed clauses (kept ++ rest) f
IsFoundConflict clauses kept rest Kept = NoneResists clauses kept
IsFoundConflict clauses kept rest (Rest k) = (k < length rest) × IsMet clauses kept rest k

-- some of the rest joined those that are kept
abbrev pub IsExtended : List ℤ → List ℤ → List ℤ → Type 0
IsExtended old rest new = (more : List ℤ) × (new ≡ old ++ more) × All (Contains rest) more

-- A closed set without a conflict in which the rest is false, and the literal l isn't true: propagation before the last
-- decision. No clause of the list lies within l and the rest.
pub record IsAsserting (clauses : List (List ℤ)) (l : ℤ) (rest : List ℤ) (f : ℤ → Bool) : Type 0 where
  pub quiet : All (IsQuiet f) clauses
  pub apart : (m : ℤ) → f m ≡ true → f (neg_ℤ m) ≡ true → ⊥
  pub not_true : f (neg_ℤ l) ≡ false
  pub rest_false : IsFalse f rest

-- the last literal of a clause, and those before it
abbrev pub last_of : List ℤ → ℤ
last_of clause = literal_at clause (length clause - 1)

abbrev pub front_of : List ℤ → List ℤ
front_of clause = take (length clause - 1) clause

-- the clause can be learnt once it is tight, if it follows
pub record IsCandidate (clauses : List (List ℤ)) (clause : List ℤ) (f : ℤ → Bool) : Type 0 where
  pub filled : 0 < length clause
  pub asserting : IsAsserting clauses (last_of clause) (front_of clause) f

-- there are marks for a candidate's literals
pub record CanBeTried (t : Trail) (clauses : List (List ℤ)) (clause : List ℤ) : Type 0 where
  pub room : HasMarks t clause
  pub candidate : (f : ℤ → Bool) × IsCandidate clauses clause f

-- under the marks the clause's literals but the last are false, and the last isn't true
pub record IsAssertingNow (marks : List Bool) (clause : List ℤ) : Type 0 where
  pub room : All (HasRoom (length marks)) clause
  pub filled : 0 < length clause
  pub rest : IsFalse (is_false marks) (front_of clause)
  pub not_true : is_false marks (neg_ℤ (last_of clause)) ≡ false
