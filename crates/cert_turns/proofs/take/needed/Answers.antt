-- The model makes each clause of the next query true, or it never does.
use Rattle.cert_turns.proofs.MissedTurns.{found_needed, never_both, never_needed}
use Rattle.cert_turns.proofs.take.needed.Goals as goal

pub need-requires-clause-model : goal.need-requires-clause-model
need-requires-clause-model c =
    found_needed c.args.condition c.next_query.result.now c.args.model c.next_query.ensures.query
    (c.is_model.ensures.0 c.if-is_model.true)

pub returns-else-is_model-clause-none : goal.returns-else-is_model-clause-none
returns-else-is_model-clause-none c =
    never_needed c.args.condition c.next_query.result.now c.args.model c.next_query.ensures.query
    (λ holds. never_both c.is_model.result (c.is_model.ensures.1 holds) c.if-is_model.false)
