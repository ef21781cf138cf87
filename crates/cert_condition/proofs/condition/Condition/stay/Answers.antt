-- The place stays, and the query of the turn after it has its unit clause.
use Rattle.std.proofs.Common.{◌<◌, ◌+◌, ◌-◌, refl, sym, subst}
use Rattle.cert_condition.specs.View.{ConditionView, IsNextTurn, IsTurned}
use Rattle.cert_condition.specs.contracts.condition.Condition.{the_view}
use Rattle.cert_condition.proofs.NextTurns.{kept_parts, turned}
use Rattle.cert_condition.proofs.condition.Condition.stay.Goals as goal

pub returns : goal.returns
returns c =
    let old : ConditionView = the_view c.self.inside in
    let some : 0 < old.due = subst (λ (v : ConditionView). 0 < v.due) (sym c.self.view_is) c.requires.due in
    let next : IsNextTurn old c.args.turn =
    subst (λ v. IsNextTurn v c.args.turn) (sym c.self.view_is) c.requires.turn in
    let new : ConditionView = record {
      place = old.place;
      boundary = old.boundary;
      listed = old.listed;
      kept = old.kept + 1;
      due = old.due - 1;
      turns = c.with_turn-turns.result.items;
      limit = old.limit;
      next = c.next_exchanged-next.result;
    } in
    subst (λ v. IsTurned v c.args.turn new) c.self.view_is
    (turned old c.args.turn new some next
    (kept_parts old c.args.turn new c.requires.stays some c.with_turn-turns.ensures.turns refl refl refl refl refl refl
    c.next_exchanged-next.ensures))
