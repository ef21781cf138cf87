-- The list without the next place, and the query of the turn after it.
use Rattle.std.proofs.Common.{◌<◌, ◌-◌, ◌++◌, ◌∷◌, [], refl, sym, ap, ◌∙◌, arith, subst}
use Rattle.std.specs.List.{All}
use Rattle.sat_proof.specs.Assignment.{HasNoZero}
use Rattle.sat_proof.specs.Log.{Fit, Refutes}
use Rattle.cert_condition.specs.View.{ConditionView, FindsNext, IsNextTurn, IsTurned}
use Rattle.law_model.specs.declared.turn.Turn.TheVariants as turn
use Rattle.cert_condition.specs.contracts.condition.Condition.{the_view}
use Rattle.cert_condition.proofs.NextTurns.{dropped_parts, taken_together, turn_dropped, turned, turns_left}
use Rattle.cert_condition.proofs.condition.Condition.drop_place.Goals as goal

pub invariant_of-result : goal.invariant_of-result
invariant_of-result c = (
  taken_together c.self.inside.listed.items c.remove.new.self.items c.self.inside.kept c.self.inside.due
      c.self.inside.next c.next_taken-next.result c.self.invariant.0
      (subst (λ (v : ConditionView). 0 < v.due) (sym c.self.view_is) c.requires.due) c.remove.ensures.items
      c.next_taken-next.ensures,
  turns_left c.self.inside.boundary.items c.self.inside.turns.items c.with_turn-turns.result.items
      (turn.Dropped c.into_log.result) c.self.inside.due c.self.invariant.1
      (subst (λ (v : ConditionView). 0 < v.due) (sym c.self.view_is) c.requires.due) c.with_turn-turns.ensures.turns,
  (let room = c.self.invariant.2 in let long = c.with_turn-turns.ensures.len in
      let up = c.with_turn-turns.ensures.capacity in
      let some : 0 < c.self.inside.due = subst (λ (v : ConditionView). 0 < v.due) (sym c.self.view_is) c.requires.due in
      omega (arith, room, long, up, some)),
)

pub returns : goal.returns
returns c =
    let old : ConditionView = the_view c.self.inside in
    let some : 0 < old.due = subst (λ (v : ConditionView). 0 < v.due) (sym c.self.view_is) c.requires.due in
    let next : IsNextTurn old (turn.Dropped c.args.proof) =
    turn_dropped old c.args.proof (subst (All HasNoZero) c.into_log.ensures.value c.into_log.ensures.no_zero)
    (subst (λ v. FindsNext v (λ q. Fit q.vars c.args.proof × Refutes q.clauses c.args.proof))
    (sym c.self.view_is) c.requires.refutes) in
    let new : ConditionView = record {
      place = old.place;
      boundary = old.boundary;
      listed = c.remove.new.self.items;
      kept = old.kept;
      due = old.due - 1;
      turns = c.with_turn-turns.result.items;
      limit = old.limit;
      next = c.next_taken-next.result;
    } in
    subst (λ v. IsTurned v (turn.Dropped c.args.proof) new) c.self.view_is
    (turned old (turn.Dropped c.args.proof) new some next
    (dropped_parts old c.args.proof new some
    (c.with_turn-turns.ensures.turns ∙ ap (λ log. old.turns ++ turn.Dropped log ∷ []) c.into_log.ensures.value)
    refl refl refl refl refl c.remove.ensures.items c.next_taken-next.ensures))
