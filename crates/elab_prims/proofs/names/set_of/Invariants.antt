-- The names so far.
use Rattle.std.proofs.Common.{take}
use Rattle.elab_prims.specs.Names.{texts, HasAll}
use Rattle.elab_prims.proofs.names.set_of.Given as goal

abbrev pub invariant-names : goal.invariant-names
invariant-names l = HasAll l.set (texts (take l.name-index l.names))
