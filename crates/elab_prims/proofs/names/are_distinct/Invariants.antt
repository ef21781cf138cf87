-- What is left decides, behind the names so far.
use Rattle.std.proofs.Common.{◌≡◌, [], drop}
use Rattle.elab_prims.specs.Names.{texts, first_repeated}
use Rattle.elab_prims.proofs.names.are_distinct.Given as goal

abbrev pub invariant-names : goal.invariant-names
invariant-names l = first_repeated [] (texts l.names) ≡ first_repeated l.seen (texts (drop l.name-index l.names))
