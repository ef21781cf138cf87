-- What the answers of a search are worth: they speak of the query of the next place of a wave.
use Rattle.std.specs.Prelude.{ℤ, List}
use Rattle.sat_proof.specs.Log.{AreFresh, Refutes}
use Rattle.sat_proof.specs.declared.clause.Cnf.{Cnf}
use Rattle.wave_proved.specs.Contents.{Contents, next_number}
use Rattle.decide_cnf.specs.Query.{IsQueryOf}

-- A log refutes the query of the next place.
pub record RefutesNext (c : Contents) (log : List (List ℤ)) : Type 0 where
  pub query : Cnf
  pub is_query : IsQueryOf c (next_number c) query
  pub refutes : Refutes query.clauses log

-- It is fresh for that query.
pub record IsFreshNext (c : Contents) (log : List (List ℤ)) : Type 0 where
  pub query : Cnf
  pub is_query : IsQueryOf c (next_number c) query
  pub fresh : AreFresh query.clauses log
