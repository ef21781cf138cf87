-- Unit propagation by closed sets. `f` tests whether a literal is in a set of literals that are held false.
use Rattle.std.specs.Prelude.{◌≡◌, ◌≢◌, Bool, true, List, ℤ, neg_ℤ}
use Rattle.std.specs.List.{All}
use Rattle.sat_proof.specs.Log.{HasNoComplements}

-- each literal of the clause is false
abbrev pub IsFalse : (ℤ → Bool) → List ℤ → Type 0
IsFalse f clause = All (λ l. f l ≡ true) clause

-- each literal of the clause other than l is false
abbrev pub AreOthersFalse : (ℤ → Bool) → List ℤ → ℤ → Type 0
AreOthersFalse f clause l = All (λ m. m ≢ l → f m ≡ true) clause

-- a literal is true where each other one of the clause is false, and they aren't all false
pub record IsQuiet (f : ℤ → Bool) (clause : List ℤ) : Type 0 where
  pub closed : All (λ l. AreOthersFalse f clause l → f (neg_ℤ l) ≡ true) clause
  pub met : IsFalse f clause → ⊥

-- a set with the clause's literals, no two of which are complements, that is closed and meets no conflict
pub record Resists (clauses : List (List ℤ)) (clause : List ℤ) (f : ℤ → Bool) : Type 0 where
  pub assumed : IsFalse f clause
  pub apart : HasNoComplements clause
  pub quiet : All (IsQuiet f) clauses

-- a clause follows exactly where no set resists it
abbrev pub NoneResists : List (List ℤ) → List ℤ → Type 0
NoneResists clauses clause = (f : ℤ → Bool) → Resists clauses clause f → ⊥

-- the clauses conflict with nothing assumed
abbrev pub AreContrary : List (List ℤ) → Type 0
AreContrary clauses = (f : ℤ → Bool) → All (IsQuiet f) clauses → ⊥
