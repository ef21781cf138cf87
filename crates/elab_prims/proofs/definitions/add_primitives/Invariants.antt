-- The primitives so far.
use Rattle.std.proofs.Common.{take}
use Rattle.elab_prims.specs.Definitions.{Finds}
use Rattle.elab_prims.proofs.definitions.add_primitives.Given as goal

abbrev pub invariant-primitives : goal.invariant-primitives
invariant-primitives l = Finds l.numbers l.modules (take l.number l.primitives)
