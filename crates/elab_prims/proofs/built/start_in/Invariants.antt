-- What is left decides.
use Rattle.std.proofs.Common.{◌≡◌, drop}
use Rattle.elab_prims.specs.Built.{start_in}
use Rattle.elab_prims.proofs.built.start_in.Given as goal

abbrev pub invariant-declarations : goal.invariant-declarations
invariant-declarations l = start_in l.declarations ≡ start_in (drop l.declaration-index l.declarations)
