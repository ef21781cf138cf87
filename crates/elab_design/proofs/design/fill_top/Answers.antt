-- The items of the top lead to the design.
use Rattle.std.proofs.Common.{rules, ◌≡◌, Ok, Err, ap, subst, sym}
use Rattle.elab_nets.specs.State.{State, finished}
use Rattle.elab_names.specs.Here.{Here}
use Rattle.elab_names.specs.Names.{opened}
use Rattle.elab_tree.specs.Elaborate.{at_top, whole}
use Rattle.elab_tree.specs.Library.{module_of}
use Rattle.elab_design.proofs.Filling.{gives_refused, top_gives}
use Rattle.elab_design.proofs.design.fill_top.Goals as goal

pub returns-in_err-add_top_items : goal.returns-in_err-add_top_items
returns-in_err-add_top_items c =
    let open_ : opened (module_of c.args.library.now c.args.k).ports (module_of c.args.library.now c.args.k).items at_top ≡ Ok c.in_ok-here.here = search rules in
    gives_refused _ c.from_residual-in_err-add_top_items.result c.in_err-add_top_items.field-0.0 _ c.from_residual-in_err-add_top_items.ensures.1
    (top_gives c.args.library.now c.args.k c.in_ok-here.here.scope c.in_ok-here.here.state {A = Unit {0}} open_ c.add_top_items.new.here.state (Err c.in_err-add_top_items.field-0.0) c.in_err-add_top_items.ensures)

pub returns : goal.returns
returns c =
    let open_ : opened (module_of c.args.library.now c.args.k).ports (module_of c.args.library.now c.args.k).items at_top ≡ Ok c.in_ok-here.here = search rules in
    let state : c.add_top_items.new.here.state ≡ c.here.inside.nets = sym (ap (λ (h : Here). h.state) c.here.view_is) in
    subst (λ (s : State). whole c.args.library.now c.args.k ≡ Ok (finished c.args.library.now.tables s)) state
    (top_gives c.args.library.now c.args.k c.in_ok-here.here.scope c.in_ok-here.here.state open_ c.add_top_items.new.here.state (Ok c.in_ok-add_top_items.field-0) c.in_ok-add_top_items.ensures)
