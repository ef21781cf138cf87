-- One primitive more, or the first refusal.
use Rattle.std.proofs.Common.{◌+◌, List, take, Ok, sym, subst}
use Rattle.std.proofs.lemmas.List.{take_all}
use Rattle.design_cell.specs.Table.{Table}
use Rattle.netlist_grammar.specs.declared.tree.Primitive.{Primitive}
use Rattle.elab_prims.specs.Built.{AreBuilt}
use Rattle.elab_prims.proofs.BuiltLemmas.{answered, are_tables, built_more, stops_at, stopped, stopped_answer}
use Rattle.elab_prims.proofs.built.build_primitives.Goals as goal

pub returns-in_err-build_primitive-clause-refused : goal.returns-in_err-build_primitive-clause-refused
returns-in_err-build_primitive-clause-refused c =
    stopped c.args.primitives.now c.from_residual.result c.in_err-build_primitive.field-0.0 c.from_residual.ensures.1
    (λ told. stops_at c.args.primitives.now c.primitives.primitive-index c.primitive-item.result c.primitives.udps.items c.in_err-build_primitive.field-0.0 c.primitives-test.true c.primitive-item.is c.primitives.invariant
    (c.in_err-build_primitive.ensures.refused told))

pub returns-in_err-build_primitive-clause-exact : goal.returns-in_err-build_primitive-clause-exact
returns-in_err-build_primitive-clause-exact c =
    stopped_answer c.args.primitives.now c.from_residual.result c.in_err-build_primitive.field-0.0 (λ udps. udps.items) c.from_residual.ensures.1
    (λ told. stops_at c.args.primitives.now c.primitives.primitive-index c.primitive-item.result c.primitives.udps.items c.in_err-build_primitive.field-0.0 c.primitives-test.true c.primitive-item.is c.primitives.invariant
    (c.in_err-build_primitive.ensures.refused told))

pub primitives-preserved : goal.primitives-preserved
primitives-preserved c =
    subst (λ (l : List Table). AreBuilt (take (c.primitives.primitive-index + 1) c.args.primitives.now) (Ok l)) (sym c.in_ok-push.ensures.items)
    (built_more c.args.primitives.now c.primitives.primitive-index c.primitive-item.result c.primitives.udps.items c.in_ok-build_primitive.field-0 c.primitives-test.true c.primitive-item.is c.primitives.invariant
    c.in_ok-build_primitive.ensures.built)

pub returns-clause-tables : goal.returns-clause-tables
returns-clause-tables c =
    are_tables c.args.primitives.now c.primitives.udps.items
    (subst (λ (l : List Primitive). AreBuilt l (Ok c.primitives.udps.items)) (take_all c.primitives.primitive-index c.args.primitives.now c.primitives-test.false) c.primitives.invariant)

pub returns-clause-exact : goal.returns-clause-exact
returns-clause-exact c =
    answered c.args.primitives.now (Ok c.primitives.udps) (λ udps. udps.items)
    (subst (λ (l : List Primitive). AreBuilt l (Ok c.primitives.udps.items)) (take_all c.primitives.primitive-index c.args.primitives.now c.primitives-test.false) c.primitives.invariant) tt
