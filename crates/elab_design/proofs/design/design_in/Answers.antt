-- Each step's refusal is what the tree comes to, and so is the design.
use Rattle.std.proofs.Common.{rules, ◌≡◌, ◌∙◌, List, Ok, Err, sym, ap, subst}
use Rattle.design_cell.specs.Table.{Table}
use Rattle.design_circuit.specs.declared.design.Design.{Design}
use Rattle.netlist_grammar.specs.declared.tree.Primitive.{Primitive}
use Rattle.elab_nets.specs.State.{finished}
use Rattle.elab_prims.specs.Built.{AreBuilt}
use Rattle.elab_tree.specs.Elaborate.{design_of}
use Rattle.elab_tree.specs.Library.{library_of}
use Rattle.elab_tree.specs.Text.{refused}
use Rattle.elab_design.specs.Held.{AreTables}
use Rattle.elab_design.proofs.Answering.{handed_on, are_tables, comes_to}
use Rattle.elab_design.proofs.design.design_in.Goals as goal

pub returns-in_err-udps-clause-refused : goal.returns-in_err-udps-clause-refused
returns-in_err-udps-clause-refused c =
    let list : c.as_slice.result.now ≡ c.args.definitions.now.primitives = search rules in
    handed_on c.args.definitions.now c.args.top.now c.from_residual.result c.in_err-udps.field-0.0 c.from_residual.ensures.1
    (λ told. refused c.requires.once (subst (λ (l : List Primitive). AreBuilt l (Err c.in_err-udps.field-0.0)) list (c.in_err-udps.ensures.refused told)))

pub make_nets-requires : goal.make_nets-requires
make_nets-requires c =
    let list : c.as_slice.result.now ≡ c.args.definitions.now.primitives = search rules in
    subst (λ (l : List Table). AreTables c.args.definitions.now l) (sym c.deref.ensures.value)
    (are_tables c.args.definitions.now c.in_ok-udps.udps.items (subst (λ (l : List Primitive). AreBuilt l (Ok c.in_ok-udps.udps.items)) list c.in_ok-udps.ensures.built) c.requires.few)

pub returns-in_err-nets-clause-refused : goal.returns-in_err-nets-clause-refused
returns-in_err-nets-clause-refused c =
    let list : c.as_slice.result.now ≡ c.args.definitions.now.primitives = search rules in
    handed_on c.args.definitions.now c.args.top.now c.from_residual-in_err-nets.result c.in_err-nets.field-0.0 c.from_residual-in_err-nets.ensures.1
    (λ told. comes_to c.args.definitions.now c.args.top.now _ (Err c.in_err-nets.field-0.0) c.requires.once
    (subst (λ (l : List Primitive). AreBuilt l (Ok c.in_ok-udps.udps.items)) list c.in_ok-udps.ensures.built)
    (subst (λ (l : List Table). design_of (library_of c.args.definitions.now l) c.args.top.now ≡ Err c.in_err-nets.field-0.0) c.deref.ensures.value (c.in_err-nets.ensures told)))

pub returns-clause-design : goal.returns-clause-design
returns-clause-design c =
    let list : c.as_slice.result.now ≡ c.args.definitions.now.primitives = search rules in
    comes_to c.args.definitions.now c.args.top.now _ (Ok c.into_design.result) c.requires.once
    (subst (λ (l : List Primitive). AreBuilt l (Ok c.in_ok-udps.udps.items)) list c.in_ok-udps.ensures.built)
    (subst (λ (l : List Table). design_of (library_of c.args.definitions.now l) c.args.top.now ≡ Ok (finished l c.in_ok-nets.nets)) c.deref.ensures.value c.in_ok-nets.ensures
    ∙ ap (λ (d : Design). Ok d) (sym c.into_design.ensures))
