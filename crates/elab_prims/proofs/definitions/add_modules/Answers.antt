-- One module more.
use Rattle.elab_prims.proofs.DefinitionLemmas.{finds_module_at}
use Rattle.elab_prims.proofs.definitions.add_modules.Goals as goal

pub modules-preserved : goal.modules-preserved
modules-preserved c =
    finds_module_at c.args.modules.now c.modules.number c.index-modules-number.result c.modules.numbers c.add.new.self c.as_slice.result.now c.modules-test.true c.index-modules-number.is c.as_slice.ensures
    c.in_ok-add.ensures c.modules.invariant
