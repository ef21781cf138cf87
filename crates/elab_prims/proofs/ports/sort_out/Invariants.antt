-- The declarations so far.
use Rattle.std.proofs.Common.{◌≡◌, take}
use Rattle.elab_prims.specs.Ports.{declared}
use Rattle.elab_prims.proofs.ports.sort_out.Given as goal

abbrev pub invariant-declarations : goal.invariant-declarations
invariant-declarations l = l.declared ≡ declared (take l.declaration-index l.declarations)
