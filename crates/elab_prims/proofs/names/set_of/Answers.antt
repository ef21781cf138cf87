-- One name more.
use Rattle.elab_prims.proofs.NameLemmas.{has_more_at}
use Rattle.elab_prims.proofs.names.set_of.Goals as goal

pub names-preserved : goal.names-preserved
names-preserved c = has_more_at c.args.names.now c.names.name-index _ c.in_ok-add.field-0 c.names.set c.add.new.self c.names-test.true c.in_ok-add.ensures.new c.in_ok-add.ensures.names c.names.invariant
