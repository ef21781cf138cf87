-- What is left decides.
use Rattle.std.proofs.Common.{◌≡◌, drop}
use Rattle.elab_prims.specs.Names.{texts, are_among}
use Rattle.elab_prims.proofs.names.has_all.Given as goal

abbrev pub invariant-names : goal.invariant-names
invariant-names l = are_among l.set (texts l.names) ≡ are_among l.set (texts (drop l.name-index l.names))
