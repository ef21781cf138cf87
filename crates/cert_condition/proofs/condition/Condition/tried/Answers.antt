-- The fresh log makes the turn.
use Rattle.std.proofs.Common.{sym, subst}
use Rattle.std.specs.List.{All}
use Rattle.sat_proof.specs.Assignment.{HasNoZero}
use Rattle.cert_condition.specs.View.{IsNextTurn}
use Rattle.law_model.specs.declared.turn.Turn.TheVariants as turn
use Rattle.cert_condition.proofs.NextTurns.{turn_tried}
use Rattle.cert_condition.proofs.condition.Condition.tried.Goals as goal

pub stay-requires-clause-turn : goal.stay-requires-clause-turn
stay-requires-clause-turn c = subst (λ log. IsNextTurn c.args.self (turn.Tried log)) (sym c.into_log.ensures.value)
    (turn_tried c.args.self c.args.proof (subst (All HasNoZero) c.into_log.ensures.value c.into_log.ensures.no_zero)
    c.requires.fresh)
