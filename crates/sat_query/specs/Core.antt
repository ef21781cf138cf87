-- Clauses that a log refutes.
use Rattle.std.specs.Prelude.{List, ℤ}
use Rattle.std.specs.List.{Contains}
use Rattle.sat_proof.specs.Log.{Fit, Refutes}
use Rattle.sat_proof.specs.declared.clause.Cnf.{Cnf}

-- A formula and a log.
pub record CoreView : Type 0 where
  pub formula : Cnf
  pub log : List (List ℤ)

-- The log refutes the formula, and names its variables alone.
pub record IsCore (core : CoreView) : Type 0 where
  pub refutes : Refutes core.formula.clauses core.log
  pub fits : Fit core.formula.vars core.log

-- Each of some clauses is one of others.
abbrev pub AreAmong : List (List ℤ) → List (List ℤ) → Type 0
AreAmong some all = (clause : List ℤ) → Contains some clause → Contains all clause
