-- The items lead to what is wanted.
use Rattle.std.proofs.Common.{rules, ℕ, ◌≡◌, ◌∙◌, ◌-◌, ◌≤◌, ◌^◌, [], Ok, Err, Some, length, refl, ap, subst, sym}
use Rattle.design_circuit.specs.Job.{primitive_of}
use Rattle.elab_nets.specs.Outcome.{Gives}
use Rattle.elab_nets.specs.State.{State}
use Rattle.elab_names.specs.Here.{Here, here_of}
use Rattle.elab_names.specs.Outline.{items_in, left_of}
use Rattle.elab_prims.specs.declared.definitions.Definition.TheVariants as definition
use Rattle.elab_prims.specs.Definitions.{definition_of}
use Rattle.elab_gates.specs.Primitives.{udp_item}
use Rattle.elab_joins.specs.Joined.{joined}
use Rattle.elab_tree.specs.Elaborate.{instance_item, item_with}
use Rattle.elab_tree.specs.Library.{Library, module_of}
use Rattle.elab_design.proofs.Choosing.{Suffice, to_do_suffice, items_more, items_none}
use Rattle.elab_design.proofs.Doing.{leads_first, leads_more, leads_refused, leads_last}
use Rattle.elab_design.proofs.Filling.{gives_refused, inner_new, instance_gives, primitive_gives}
use Rattle.elab_design.proofs.instances.+instances.Goals as goal

pub add_items-items-init : goal.add_items-items-init
add_items-items-init t c =
    let todo = items_in c.to_do-items.result.now in
    let all : Suffice c.args.elaborator.now.source c.args.modules.now c.args.room (left_of (module_of c.args.elaborator.now c.args.k).items) todo =
    subst (λ (l : Library). Suffice l.source c.args.modules.now c.args.room (left_of (module_of l c.args.k).items) todo) c.library.ensures (to_do_suffice _ _ _ _ _ c.to_do-items.ensures) in
    record {
      leads = leads_first c.args.elaborator.now c.args.modules.now c.args.room (module_of c.args.elaborator.now c.args.k).items _ c.args.here.now c.requires.some c.requires.new all;
      same = refl;
    }

pub add_items-returns-in_err-add_item-clause-made : goal.add_items-returns-in_err-add_item-clause-made
add_items-returns-in_err-add_item-clause-made t c =
    let small : length c.items.here.state.names ≤ 2 ^ 20 = search rules in
    let more = items_more c.to_do-items.result.now c.items.item-index c.item-item.result c.items-test.true c.item-item.is in
    let e = c.in_err-add_item.field-0.0 in
    gives_refused _ c.from_residual.result e _ c.from_residual.ensures.1
    (λ told. leads_refused c.args.elaborator.now c.args.modules.now c.args.room _ c.item-item.result.now _ _ c.items.here e c.requires.some small more c.items.invariant.leads
    (subst (λ (l : Library). item_with (instance_item l c.args.modules.now (c.args.room - 1)) c.item-item.result.now c.items.here ≡ Err c.in_err-add_item.field-0.0) c.items.invariant.same (c.in_err-add_item.ensures.made told)))

pub add_items-items-preserved : goal.add_items-items-preserved
add_items-items-preserved t c =
    let small : length c.items.here.state.names ≤ 2 ^ 20 = search rules in
    let more = items_more c.to_do-items.result.now c.items.item-index c.item-item.result c.items-test.true c.item-item.is in
    record {
      leads = leads_more c.args.elaborator.now c.args.modules.now c.args.room _ c.item-item.result.now _ _ c.items.here c.add_item.new.here c.requires.some small more c.items.invariant.leads
          (subst (λ (l : Library). item_with (instance_item l c.args.modules.now (c.args.room - 1)) c.item-item.result.now c.items.here ≡ Ok c.add_item.new.here) c.items.invariant.same c.in_ok-add_item.ensures.made);
      same = c.in_ok-add_item.ensures.same ∙ c.items.invariant.same;
    }

pub add_items-returns-clause-made : goal.add_items-returns-clause-made
add_items-returns-clause-made t c =
    let small : length c.items.here.state.names ≤ 2 ^ 20 = search rules in
    leads_last c.args.elaborator.now c.args.modules.now c.args.room _ _ c.items.here c.requires.some small
    (items_none c.to_do-items.result.now c.items.item-index c.items-test.false) c.items.invariant.leads

pub add_inner-add_below-requires : goal.add_inner-add_below-requires
add_inner-add_below-requires t c =
    let new : c.join.new.here.scope.instances ≡ [] =
    inner_new c.args.item.now c.module.result.now c.args.here.now c.in_ok-outer.outer c.join.new.here.scope c.join.new.here.state c.in_ok-outer.ensures in
    search (rules, new)

pub add_inner-returns-in_err-add_below-clause-made : goal.add_inner-returns-in_err-add_below-clause-made
add_inner-returns-in_err-add_below-clause-made t c =
    let joint : joined c.args.item.now (module_of c.args.elaborator.now c.args.k) c.args.here.now ≡ Ok (c.in_ok-outer.outer, c.join.new.here) = search rules in
    gives_refused _ c.from_residual-in_err-add_below.result c.in_err-add_below.field-0.0 _ c.from_residual-in_err-add_below.ensures.1
    (instance_gives c.args.elaborator.now c.args.path.now.modules.now c.args.path.now.room c.args.k c.args.item.now c.args.here.now c.in_ok-outer.outer c.join.new.here.scope c.join.new.here.state {A = Unit {0}} c.requires.found c.requires.entered joint
    c.add_below.new.here.state (Err c.in_err-add_below.field-0.0) c.in_err-add_below.ensures.made)

pub add_inner-returns-clause-made : goal.add_inner-returns-clause-made
add_inner-returns-clause-made t c =
    let joint : joined c.args.item.now (module_of c.args.elaborator.now c.args.k) c.args.here.now ≡ Ok (c.in_ok-outer.outer, c.join.new.here) = search rules in
    let state : c.add_below.new.here.state ≡ c.here.inside.nets = sym (ap (λ (h : Here). h.state) c.here.view_is) in
    subst (λ (s : State). instance_item c.args.elaborator.now c.args.path.now.modules.now c.args.path.now.room c.args.item.now c.args.here.now ≡ Ok (here_of c.in_ok-outer.outer s)) state
    (instance_gives c.args.elaborator.now c.args.path.now.modules.now c.args.path.now.room c.args.k c.args.item.now c.args.here.now c.in_ok-outer.outer c.join.new.here.scope c.join.new.here.state c.requires.found c.requires.entered joint
    c.add_below.new.here.state (Ok c.in_ok-add_below.field-0) c.in_ok-add_below.ensures.made)

pub add_instance-returns-in-Some-Primitive-clause-made : goal.add_instance-returns-in-Some-Primitive-clause-made
add_instance-returns-in-Some-Primitive-clause-made t c =
    let found : definition_of c.args.elaborator.now.source c.args.item.now.definition.text ≡ Some (definition.Primitive c.in-Some-Primitive.k) = search rules in
    primitive_gives c.args.elaborator.now c.args.path.now.modules.now c.args.path.now.room c.in-Some-Primitive.k c.args.item.now c.args.here.now c.add_primitive.result _ found
    (subst (λ (n : ℕ). Gives (udp_item n (primitive_of c.args.elaborator.now.tables n) c.args.item.now c.args.here.now) c.add_primitive.result (λ _. c.add_primitive.new.here)) c.in-Some-Primitive.k-is c.add_primitive.ensures.made)
