-- What a walk over a log's clauses knows.
use Rattle.std.specs.Prelude.{◌≡◌, ◌<◌, ◌+◌, ◌*◌, ℕ, Bool, true, false, List, length, ℤ}
use Rattle.sat_proof.specs.Closed.{AreContrary}
use Rattle.sat_proof.specs.Index.{Serves}
use Rattle.sat_proof.specs.Propagator.{IsAtBase}
use Rattle.sat_proof.specs.Trail.{IsEmpty}
use Rattle.sat_proof.specs.declared.earlier_clauses.EarlierClauses.{EarlierClauses}
use Rattle.sat_proof.specs.declared.propagator.Propagator.{Propagator}

-- k is the first of `count` places that doesn't keep the rule
pub record IsFirst (Keeps : ℕ → Type 0) (count k : ℕ) : Type 0 where
  pub below : k < count
  pub earlier : (j : ℕ) → j < k → Keeps j
  pub here : Keeps k → ⊥

-- the clauses conflict and `refuted` says so, or the propagator is at their base
pub record IsReady (p : Propagator) (refuted : Bool) (clauses : List (List ℤ)) : Type 0 where
  pub contrary : refuted ≡ true → AreContrary clauses
  pub base : refuted ≡ false → IsAtBase p clauses

-- nothing is marked, and the index serves the earlier clauses
pub record ServesEarlier (e : EarlierClauses) (clauses : List (List ℤ)) : Type 0 where
  pub empty : IsEmpty e.seen
  pub served : Serves e.index clauses

-- a checker's parts have room for the literals of a given number of variables
pub record HaveVars (vars : ℕ) (p : Propagator) (e : EarlierClauses) : Type 0 where
  pub marks : length p.trail.marks.items ≡ 2 * vars + 2
  pub seen : length e.seen.marks.items ≡ 2 * vars + 2
