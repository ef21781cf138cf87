-- One declaration more.
use Rattle.std.proofs.Common.{◌∙◌, ap}
use Rattle.elab_prims.specs.Ports.{Declared, with_declared}
use Rattle.elab_prims.proofs.PortLemmas.{declared_more}
use Rattle.elab_prims.proofs.ports.sort_out.Goals as goal

pub declarations-preserved : goal.declarations-preserved
declarations-preserved c =
    declared_more c.args.declarations.now c.declarations.declaration-index c.declaration-item.result c.add.new.self c.as_slice.result.now c.declarations-test.true c.declaration-item.is c.as_slice.ensures
    (c.in_ok-add.ensures ∙ ap (λ (d : Declared). with_declared c.declaration-item.result.what c.as_slice.result.now d) c.declarations.invariant)
