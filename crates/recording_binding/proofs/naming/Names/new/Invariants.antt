-- The nets so far by their keys.
use Rattle.recording_binding.specs.Keys.{Lists}
use Rattle.recording_binding.proofs.naming.Names.new.Given as goal

abbrev pub invariant-nets : goal.invariant-nets
invariant-nets l = Lists l.lists.entries l.longest l.design l.number
