-- Two definitions of a name are what the tree comes to, and so is the design of others.
use Rattle.std.proofs.Common.{◌≡◌, ◌≢◌, ◌<◌, ◌^◌, None, Ok, Err, IfOk, IfErr, length, sym, subst}
use Rattle.design_circuit.specs.declared.design.Design.{Design}
use Rattle.netlist_grammar.specs.declared.tree.Source.{Source}
use Rattle.elab_nets.specs.declared.fault.ElabErr.{ElabErr}
use Rattle.elab_nets.specs.declared.fault.ElabErr.TheVariants.{Memory}
use Rattle.elab_prims.specs.Definitions.{repeated}
use Rattle.elab_tree.specs.Text.{Elaborates}
use Rattle.elab_design.proofs.Answering.{handed_on, twice_of, once_of, named_is}
use Rattle.elab_design.proofs.design.find_design.Goals as goal

pub returns-in_err-definitions-clause-refused : goal.returns-in_err-definitions-clause-refused
returns-in_err-definitions-clause-refused c =
    handed_on c.args.source.now c.args.top.now c.from_residual.result c.in_err-definitions.field-0.0 c.from_residual.ensures.1
    (λ told. twice_of c.args.source.now c.args.top.now c.in_err-definitions.field-0.0 (c.in_err-definitions.ensures told))

pub design_in-requires-clause-few : goal.design_in-requires-clause-few
design_in-requires-clause-few c = subst (λ (s : Source). length s.primitives < 2 ^ 32) (sym (named_is c.args.source.now _ c.in_ok-definitions.ensures)) c.requires

pub design_in-requires-clause-once : goal.design_in-requires-clause-once
design_in-requires-clause-once c = subst (λ (s : Source). repeated s ≡ None) (sym (named_is c.args.source.now _ c.in_ok-definitions.ensures)) (once_of c.args.source.now _ c.in_ok-definitions.ensures)

pub returns-clause-design : goal.returns-clause-design
returns-clause-design c =
    subst (λ (s : Source). IfOk c.design_in.result (λ (d : Design). Elaborates s c.args.top.now (Ok d))) (named_is c.args.source.now _ c.in_ok-definitions.ensures) c.design_in.ensures.design

pub returns-clause-refused : goal.returns-clause-refused
returns-clause-refused c =
    subst (λ (s : Source). IfErr c.design_in.result (λ (e : ElabErr). e ≢ Memory → Elaborates s c.args.top.now (Err e))) (named_is c.args.source.now _ c.in_ok-definitions.ensures) c.design_in.ensures.refused
