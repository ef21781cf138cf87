-- The names so far.
use Rattle.std.proofs.Common.{take}
use Rattle.elab_names.specs.Sets.{HasNames}
use Rattle.elab_names.proofs.ports.add_names.Given as goal

abbrev pub invariant-words : goal.invariant-words
invariant-words l = HasNames l.names (take l.word-index l.words)
