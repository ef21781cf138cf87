-- Changes of the query that is kept for the next turn.
use Rattle.std.specs.Prelude.{◌≡◌, ℕ, ◌+◌, ◌<◌, slice_set}
use Rattle.std.specs.List.{remove}
use Rattle.sat_proof.specs.Log.{clause_at}
use Rattle.cert_condition.specs.declared.next.NextQuery.{NextQuery}

-- The clause at a place is taken away.
pub record IsTakenAway (old : NextQuery) (place : ℕ) (new : NextQuery) : Type 0 where
  pub vars : new.query.vars ≡ old.query.vars
  pub cone : new.cone ≡ old.cone
  pub clauses : new.query.clauses ≡ remove old.query.clauses place
  pub away : new.away ≡ clause_at old.query.clauses place

-- It is taken away, and the one that was away stands there.
pub record IsExchanged (old : NextQuery) (place : ℕ) (new : NextQuery) : Type 0 where
  pub vars : new.query.vars ≡ old.query.vars
  pub cone : new.cone ≡ old.cone
  pub clauses : new.query.clauses ≡ slice_set old.query.clauses place old.away
  pub away : new.away ≡ clause_at old.query.clauses place

-- So is the unit clause of the turn after the next one, where there is one. It stands where the first places that are
-- kept end.
abbrev pub IsNextTaken : NextQuery → ℕ → ℕ → NextQuery → Type 0
IsNextTaken old kept due new = 1 < due → IsTakenAway old (old.cone + kept) new

abbrev pub IsNextExchanged : NextQuery → ℕ → ℕ → NextQuery → Type 0
IsNextExchanged old kept due new = 1 < due → IsExchanged old (old.cone + kept) new
