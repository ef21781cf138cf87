-- The modules so far.
use Rattle.std.proofs.Common.{◌≡◌, take}
use Rattle.elab_design.proofs.library.modules_of.Given as goal

abbrev pub invariant-modules : goal.invariant-modules
invariant-modules l = l.all.items ≡ take l.unit-index l.modules
