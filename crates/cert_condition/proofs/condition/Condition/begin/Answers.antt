-- No turn is made.
use Rattle.std.proofs.Common.{rules, ◌≡◌, length, refl, ap, ◌∙◌}
use Rattle.std.specs.Vec.{vec_len}
use Rattle.cert_condition.specs.View.{due_count, first_count}
use Rattle.cert_condition.proofs.NextTurns.{begun}
use Rattle.cert_condition.proofs.condition.Condition.begin.Goals as goal

pub returns-clause-begun : goal.returns-clause-begun
returns-clause-begun c =
    let long : vec_len c.args.listed ≡ length c.args.listed.items = search rules in
    begun c.args.place c.args.listed.items c.args.next c.args.limit _ c.in_ok-turns.ensures.items
    (c.first_count-kept.ensures ∙ ap first_count (c.len.ensures ∙ long))
    (c.due_count-due.ensures ∙ ap due_count (c.len-2.ensures ∙ long)) refl refl refl refl
    (c.in_ok-boundary.ensures ∙ c.as_slice.ensures.value)
