-- A quiet instance passes.
use Rattle.std.proofs.Common.{rules, ◌≡◌, ◌≤◌, ◌^◌, Ok, length, ap, subst, sym}
use Rattle.elab_nets.specs.declared.fault.ElabErr.TheVariants.{PortMismatch}
use Rattle.elab_nets.specs.Outcome.{or_refuse}
use Rattle.elab_nets.specs.State.{State}
use Rattle.elab_names.specs.Scope.{named_instance}
use Rattle.elab_names.specs.Here.{Here, here_of}
use Rattle.elab_tree.specs.Elaborate.{instance_item}
use Rattle.elab_design.proofs.Passing.{passes_named}
use Rattle.elab_design.proofs.instances.pass.Goals as goal

pub returns : goal.returns
returns c =
    let few : length c.args.here.now.state.names ≤ 2 ^ 20 = search rules in
    let name : or_refuse c.args.item.now.name (PortMismatch c.args.item.now.definition.at) ≡ Ok c.in_ok-name.name.now = search rules in
    let named : named_instance c.in_ok-name.name.now c.args.here.now.scope ≡ Ok c.add_instance.new.self = search rules in
    let state : c.args.here.now.state ≡ c.here.inside.nets = sym (ap (λ (h : Here). h.state) c.here.view_is) in
    subst (λ (s : State). instance_item c.args.library.now c.args.path.now.modules.now c.args.path.now.room c.args.item.now c.args.here.now ≡ Ok (here_of c.add_instance.new.self s)) state
    (passes_named c.args.library.now c.args.path.now.modules.now c.args.path.now.room c.args.item.now c.args.here.now c.args.k few
    c.requires.found c.requires.passes _ c.in_ok-name.name.now name c.add_instance.new.self named)
