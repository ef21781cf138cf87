-- The model makes the turn.
use Rattle.cert_condition.proofs.NextTurns.{turn_needed}
use Rattle.cert_condition.proofs.condition.Condition.need.Goals as goal

pub stay-requires-clause-turn : goal.stay-requires-clause-turn
stay-requires-clause-turn c = turn_needed c.args.self c.args.model c.requires.model
