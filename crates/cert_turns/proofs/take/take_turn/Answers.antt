-- The turn of the next place is taken, or never is the next one.
use Rattle.std.proofs.lemmas.Result.{IfOk-weaker}
use Rattle.std.specs.Prelude.{IfNone, IfSome}
use Rattle.cert_condition.specs.View.{IsTurned}
use Rattle.cert_turns.specs.TurnLines.{IsNeverNext, IsNoTurn, IsTaken}
use Rattle.cert_turns.proofs.MissedTurns.{if_none, if_some, missed_place, missed_turn, other_place, same_place, taken}
use Rattle.cert_turns.proofs.take.take_turn.Goals as goal

pub returns-then-eq-clause-some : goal.returns-then-eq-clause-some
returns-then-eq-clause-some c = IfOk-weaker c.turned.result
    (λ found. IfSome found (IsTurned c.args.condition c.args.line.turn))
    (λ found. IfSome found (IsTaken c.args.condition c.args.line))
    (λ found. if_some found (IsTurned c.args.condition c.args.line.turn) (IsTaken c.args.condition c.args.line)
    (λ new. taken c.args.condition new c.args.line c.next_place.result c.next_place.ensures
    (same_place c.next_place.result c.args.line.place c.eq.result c.eq.ensures c.if-eq.true)))
    c.turned.ensures.some

pub returns-then-eq-clause-none : goal.returns-then-eq-clause-none
returns-then-eq-clause-none c = IfOk-weaker c.turned.result
    (λ found. IfNone found (IsNeverNext c.args.condition c.args.line.turn))
    (λ found. IfNone found (IsNoTurn c.args.condition c.args.line))
    (λ found. if_none found (IsNeverNext c.args.condition c.args.line.turn) (IsNoTurn c.args.condition c.args.line)
    (missed_turn c.args.condition c.args.line))
    c.turned.ensures.none

pub returns-else-eq-clause-none : goal.returns-else-eq-clause-none
returns-else-eq-clause-none c =
    missed_place c.args.condition c.args.line c.next_place.result c.next_place.ensures
    (other_place c.next_place.result c.args.line.place c.eq.result c.eq.ensures c.if-eq.false)
