-- What the search finds makes the turn.
use Rattle.std.proofs.Common.{ℕ, ◌∙◌, subst}
use Rattle.sat_proof.specs.declared.clause.Cnf.{Cnf}
use Rattle.sat_search.specs.Outcome.{IsOutcome}
use Rattle.cert_condition.proofs.NextTurns.{found_fresh, found_model, found_refuted}
use Rattle.cert_condition.proofs.made.make_turn.Goals as goal

pub need-requires-clause-model : goal.need-requires-clause-model
need-requires-clause-model c =
    let query : Cnf = c.next_query.result.now in
    let limit : ℕ = c.args.limit in
    found_model c.args.condition query c.in-Model.model c.next_query.ensures.query
    (subst (IsOutcome query.clauses query.vars limit) c.in-Model.is c.in_ok-model.ensures.outcome)

pub drop_place-requires-clause-refutes : goal.drop_place-requires-clause-refutes
drop_place-requires-clause-refutes c =
    let query : Cnf = c.next_query.result.now in
    let limit : ℕ = c.args.limit in
    let is = subst (IsOutcome query.clauses query.vars limit) c.in-Refuted.is c.in_ok-model.ensures.outcome in
    found_refuted c.args.condition query c.in-Refuted.proof c.next_query.ensures.query is.1 is.0

pub tried-requires-clause-fresh : goal.tried-requires-clause-fresh
tried-requires-clause-fresh c =
    let query : Cnf = c.next_query.result.now in
    let limit : ℕ = c.args.limit in
    let is = subst (IsOutcome query.clauses query.vars limit) c.in-Limit.is c.in_ok-model.ensures.outcome in
    found_fresh c.args.condition query c.in-Limit.proof c.next_query.ensures.query is.2 is.0
    (is.1 ∙ c.requires.limit)
