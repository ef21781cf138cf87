-- The modules so far.
use Rattle.std.proofs.Common.{take, []}
use Rattle.elab_prims.specs.Definitions.{Finds}
use Rattle.elab_prims.proofs.definitions.add_modules.Given as goal

abbrev pub invariant-modules : goal.invariant-modules
invariant-modules l = Finds l.numbers (take l.number l.modules) []
