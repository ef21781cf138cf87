-- One primitive more.
use Rattle.elab_prims.proofs.DefinitionLemmas.{finds_primitive_at}
use Rattle.elab_prims.proofs.definitions.add_primitives.Goals as goal

pub primitives-preserved : goal.primitives-preserved
primitives-preserved c =
    finds_primitive_at c.args.modules.now c.args.primitives.now c.primitives.number c.index-primitives-number.result c.primitives.numbers c.add.new.self c.as_slice.result.now c.primitives-test.true c.index-primitives-number.is
    c.as_slice.ensures c.in_ok-add.ensures c.primitives.invariant
