-- The list is seen after those that were, which stay.
use Rattle.std.proofs.Common.{rules, ◌≡◌, ◌∷◌, ◌++◌, [], List, ℕ, length, ap, ◌∙◌, Result, Ok, Err, OnErr}
use Rattle.decide_lane_nodes.proofs.SpanLists.{lists_stay, seen_next, within_more, within_next}
use Rattle.decide_lane_nodes.proofs.lists.Lists.push.Goals as goal

on_err : {T E P : Type 0} (r : Result T E) → P → OnErr r P
on_err (Ok x) holds = tt
on_err (Err e) holds = holds

pub returns-in_err-push-clause-err : goal.returns-in_err-push-clause-err
returns-in_err-push-clause-err c =
    on_err c.from_residual-in_err-push.result
    (rw (c.in_err-push.ensures.items, c.in_ok-extend_from_slice.ensures.items)
    (lists_stay c.self.inside.places.items c.args.list.now c.self.inside.spans.items c.self.invariant ∙ c.self.view_is))

pub invariant_of-self-in_err-push : goal.invariant_of-self-in_err-push
invariant_of-self-in_err-push c =
    rw (c.in_err-push.ensures.items, c.in_ok-extend_from_slice.ensures.items)
    (within_more c.self.inside.places.items c.args.list.now c.self.inside.spans.items c.self.invariant)

pub invariant_of-self-2 : goal.invariant_of-self-2
invariant_of-self-2 c =
    let long : c.len.result ≡ length c.self.inside.places.items = search rules in
    rw (c.in_ok-push.ensures.items, c.in_ok-extend_from_slice.ensures.items)
    (within_next c.self.inside.places.items c.args.list.now c.self.inside.spans.items c.in_ok-narrow.field-0
    c.in_ok-narrow-2.field-0 c.self.invariant (c.in_ok-narrow.ensures ∙ long) c.in_ok-narrow-2.ensures)

pub returns-clause-ok : goal.returns-clause-ok
returns-clause-ok c =
    let long : c.len.result ≡ length c.self.inside.places.items = search rules in
    rw (c.in_ok-push.ensures.items, c.in_ok-extend_from_slice.ensures.items)
    (seen_next c.self.inside.places.items c.args.list.now c.self.inside.spans.items c.in_ok-narrow.field-0
    c.in_ok-narrow-2.field-0 c.self.invariant (c.in_ok-narrow.ensures ∙ long) c.in_ok-narrow-2.ensures
    ∙ ap (λ (ls : List (List ℕ)). ls ++ c.args.list.now ∷ []) c.self.view_is)
