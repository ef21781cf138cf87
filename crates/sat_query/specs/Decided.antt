-- What a guess comes to that stood its test.
use Rattle.std.specs.Prelude.{ℕ}
use Rattle.sat_proof.specs.declared.clause.Cnf.{Cnf}
use Rattle.sat_search.specs.Outcome.{IsOutcome}
use Rattle.sat_search.specs.declared.outcome.Outcome.{Outcome}

-- A model of a query, or a log that refutes it, whatever the limit.
abbrev pub IsDecided : Cnf → Outcome → Type 0
IsDecided query outcome = (limit : ℕ) → IsOutcome query.clauses query.vars limit outcome
