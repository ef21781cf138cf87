-- The key so far, with that of the texts that are left, is the whole; and the texts so far have no space.
use Rattle.std.proofs.Common.{◌≡◌, ◌++◌, length}
use Rattle.recording_binding.specs.Keys.{are_solid, key_of}
use Rattle.replay_code.specs.Found.{texts_in}
use Rattle.replay_code.proofs.lookup.key_of.Given as goal

abbrev pub invariant-texts : goal.invariant-texts
invariant-texts l = record {
  key : l.key.items ++ key_of (texts_in l.rest) ≡ key_of (texts_in l.texts);
  solid : are_solid (texts_in l.rest) ≡ are_solid (texts_in l.texts);
}

abbrev pub decreases-texts : goal.decreases-texts
decreases-texts l = length l.rest
