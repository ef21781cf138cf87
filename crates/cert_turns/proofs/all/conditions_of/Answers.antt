-- The condition of one line more, where it gives a bit.
use Rattle.std.proofs.Common.{◌+◌, ◌∙◌, ap, subst, sym, take}
use Rattle.cert_condition.specs.Known.{IsRightOf}
use Rattle.cert_turns.specs.Conditions.{AreConditionsOf, settled_places}
use Rattle.cert_turns.proofs.ConditionLists.{more_here, same_here, settled_here}
use Rattle.cert_turns.proofs.all.conditions_of.Goals.{then-gives_bit+in_ok-finished_at+in_ok-push, else-gives_bit}
use Rattle.cert_turns.proofs.all.conditions_of.Goals as goal

pub finished_at-requires-clause-settled : goal.finished_at-requires-clause-settled
finished_at-requires-clause-settled c =
    settled_here c.args.wave.now c.lines-lines.result.now c.lines.place _ c.index-lines-place.result
    c.recall.ensures c.lines-lines.ensures.lines c.lines-test.true c.index-lines-place.is
    (sym c.gives_bit.ensures ∙ c.if-gives_bit.true)

pub lines-preserved : goal.lines-preserved
lines-preserved c = elim c.if-gives_bit.branch [
  | then-gives_bit+in_ok-finished_at+in_ok-push w ↦ record {
    are = more_here c.args.wave.now c.lines-lines.result.now c.lines.place _ c.index-lines-place.result
        c.lines.conditions.items c.if-gives_bit.conditions.items w.in_ok-finished_at.field-0 c.lines-lines.ensures.lines
        c.lines-test.true c.index-lines-place.is (sym c.gives_bit.ensures ∙ w.if-gives_bit.true) c.lines.invariant.are
        w.in_ok-finished_at.ensures.condition (ap (λ v. v.items) w.conditions-is ∙ w.in_ok-push.ensures.items);
    right = subst (IsRightOf c.args.wave.now) (sym w.tracer-is) w.in_ok-finished_at.ensures.right;
  }
  | else-gives_bit w ↦ record {
    are = subst (λ v. AreConditionsOf c.args.wave.now (settled_places (take (c.lines.place + 1)
        c.args.wave.now.lines)) v.items) (sym w.conditions-is)
        (same_here c.args.wave.now c.lines-lines.result.now c.lines.place _ c.index-lines-place.result
        c.lines.conditions.items c.lines-lines.ensures.lines c.lines-test.true c.index-lines-place.is
        (sym c.gives_bit.ensures ∙ w.if-gives_bit.false) c.lines.invariant.are);
    right = subst (IsRightOf c.args.wave.now) (sym w.tracer-is) c.lines.invariant.right;
  }
]
