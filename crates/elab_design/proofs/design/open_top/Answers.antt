-- The top is open without instances.
use Rattle.std.proofs.Common.{rules, ◌≡◌, Ok}
use Rattle.elab_names.specs.Here.{here_of}
use Rattle.elab_names.specs.Names.{opened}
use Rattle.elab_tree.specs.Elaborate.{at_top}
use Rattle.elab_tree.specs.Library.{module_of}
use Rattle.elab_design.proofs.Filling.{top_new}
use Rattle.elab_design.proofs.design.open_top.Goals as goal

pub returns-clause-new : goal.returns-clause-new
returns-clause-new c =
    let open_ : opened (module_of c.args.library.now c.args.k).ports (module_of c.args.library.now c.args.k).items at_top ≡ Ok (here_of c.in_ok-scope.scope c.open.new.nets) = search rules in
    top_new c.args.library.now c.args.k c.in_ok-scope.scope c.open.new.nets open_
