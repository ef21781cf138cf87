-- The node is seen after those that were, which stay.
use Rattle.std.proofs.Common.{rules, ◌≡◌, ◌∷◌, ◌++◌, [], List, length, ap, ◌∙◌, Result, Ok, Err, OnErr}
use Rattle.decide_nodes.specs.declared.node.Node.{Node}
use Rattle.decide_graph.specs.Kept.{ruled_node}
use Rattle.decide_graph.proofs.KeptLists.{seen_apart, seen_next, seen_stay, within_more, within_next}
use Rattle.decide_graph.proofs.kept.KeptNodes.push.Goals as goal

on_err : {T E P : Type 0} (r : Result T E) → P → OnErr r P
on_err (Ok x) holds = tt
on_err (Err e) holds = holds

pub returns-in_err-extend_from_slice-2-clause-err : goal.returns-in_err-extend_from_slice-2-clause-err
returns-in_err-extend_from_slice-2-clause-err c =
    on_err c.from_residual-in_err-extend_from_slice-2.result
    (rw (c.in_err-extend_from_slice-2.ensures.items, c.in_ok-extend_from_slice.ensures.items)
    (seen_apart c.self.inside.arguments.items c.args.arguments.now c.self.inside.values.items c.self.inside.entries.items
    c.self.invariant ∙ c.self.view_is))

pub invariant_of-self-in_err-push : goal.invariant_of-self-in_err-push
invariant_of-self-in_err-push c =
    rw (c.in_err-push.ensures.items, c.in_ok-extend_from_slice-2.ensures.items, c.in_ok-extend_from_slice.ensures.items)
    (within_more c.self.inside.arguments.items c.args.arguments.now c.self.inside.values.items c.args.values.now
    c.self.inside.entries.items c.self.invariant)

pub returns-in_err-push-clause-err : goal.returns-in_err-push-clause-err
returns-in_err-push-clause-err c =
    on_err c.from_residual-in_err-push.result
    (rw (c.in_err-push.ensures.items, c.in_ok-extend_from_slice-2.ensures.items, c.in_ok-extend_from_slice.ensures.items)
    (seen_stay c.self.inside.arguments.items c.args.arguments.now c.self.inside.values.items c.args.values.now
    c.self.inside.entries.items c.self.invariant ∙ c.self.view_is))

pub invariant_of-self-2 : goal.invariant_of-self-2
invariant_of-self-2 c =
    let values_is : c.len.result ≡ length c.self.inside.values.items = search rules in
    let long : c.len-2.result ≡ length c.self.inside.arguments.items = search rules in
    rw (c.in_ok-push.ensures.items, c.in_ok-extend_from_slice-2.ensures.items, c.in_ok-extend_from_slice.ensures.items)
    (within_next c.args.place c.self.inside.arguments.items c.args.arguments.now c.self.inside.values.items c.args.values.now
    c.self.inside.entries.items c.in_ok-narrow.field-0 c.len.result c.self.invariant (c.in_ok-narrow.ensures ∙ long) values_is)

pub returns-clause-ok : goal.returns-clause-ok
returns-clause-ok c =
    let values_is : c.len.result ≡ length c.self.inside.values.items = search rules in
    let long : c.len-2.result ≡ length c.self.inside.arguments.items = search rules in
    rw (c.in_ok-push.ensures.items, c.in_ok-extend_from_slice-2.ensures.items, c.in_ok-extend_from_slice.ensures.items)
    (seen_next c.args.place c.self.inside.arguments.items c.args.arguments.now c.self.inside.values.items c.args.values.now
    c.self.inside.entries.items c.in_ok-narrow.field-0 c.len.result c.self.invariant (c.in_ok-narrow.ensures ∙ long) values_is
    ∙ ap (λ (ns : List Node). ns ++ ruled_node c.args.place c.args.arguments.now c.args.values.now ∷ []) c.self.view_is)
