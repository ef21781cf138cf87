-- Queries with their answers.
use Rattle.std.specs.Prelude.{◌≡◌, ℕ, Option, None, Some, length}
use Rattle.sat_proof.specs.Assignment.{IsModel}
use Rattle.sat_proof.specs.Log.{AreFresh, Fit, Refutes}
use Rattle.sat_proof.specs.declared.clause.Cnf.{Cnf}
use Rattle.sat_search.specs.declared.outcome.Outcome.{Outcome}
use Rattle.sat_search.specs.declared.outcome.Outcome.TheVariants as sat
use Rattle.decide_repair.specs.declared.answered.Answer.{Answer}
use Rattle.decide_repair.specs.declared.answered.Answer.TheVariants.{Model, Refuted, Limit}

-- An answer to a query: a model, a log that refutes, or a fresh log of as many clauses as the limit says.
abbrev pub IsAnswer : Cnf → ℕ → Answer → Type 0
IsAnswer query limit (Model model) = IsModel query.vars query.clauses model
IsAnswer query limit (Refuted log) = Refutes query.clauses log × Fit query.vars log
IsAnswer query limit (Limit log) = AreFresh query.clauses log × (length log ≡ limit) × Fit query.vars log

-- An outcome as an answer.
abbrev pub answer_of : Outcome → Answer
answer_of (sat.Model model) = Model model
answer_of (sat.Refuted log) = Refuted log
answer_of (sat.Limit log) = Limit log

-- What callers see of a query that was answered.
pub record AnsweredView : Type 0 where
  pub query : Cnf
  pub limit : ℕ
  pub answer : Answer

abbrev pub asked : Cnf → ℕ → Answer → AnsweredView
asked query limit answer = record { query = query; limit = limit; answer = answer }

-- Its answer again for a query with a limit, or the query or the limit is another.
abbrev pub IsAgain : AnsweredView → Cnf → ℕ → Option Outcome → Type 0
IsAgain answered query limit None = (answer : Answer) → answered ≡ asked query limit answer → ⊥
IsAgain answered query limit (Some outcome) = answered ≡ asked query limit (answer_of outcome)
