-- The tables so far.
use Rattle.std.proofs.Common.{take, Ok}
use Rattle.elab_prims.specs.Built.{AreBuilt}
use Rattle.elab_prims.proofs.built.build_primitives.Given as goal

abbrev pub invariant-primitives : goal.invariant-primitives
invariant-primitives l = AreBuilt (take l.primitive-index l.primitives) (Ok l.udps.items)
