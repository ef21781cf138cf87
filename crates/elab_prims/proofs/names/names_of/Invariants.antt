-- The names so far.
use Rattle.std.proofs.Common.{◌≡◌, take}
use Rattle.elab_prims.specs.Names.{texts, names_of}
use Rattle.elab_prims.proofs.names.names_of.Given as goal

abbrev pub invariant-words : goal.invariant-words
invariant-words l = texts l.names.items ≡ names_of (take l.word-index l.words)
