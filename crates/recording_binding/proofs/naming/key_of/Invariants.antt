-- The key so far, and that of the texts that are left.
use Rattle.std.proofs.Common.{◌≡◌, ◌++◌, length, map}
use Rattle.design_circuit.specs.declared.name.NamePart.{NamePart as Part}
use Rattle.recording_binding.specs.Keys.{key_of}
use Rattle.recording_binding.proofs.naming.key_of.Given as goal

abbrev pub invariant-parts : goal.invariant-parts
invariant-parts l = l.key.items ++ key_of (map (λ (part : Part). part.text) l.rest) ≡ key_of (map (λ (part : Part). part.text) l.parts)

abbrev pub decreases-parts : goal.decreases-parts
decreases-parts l = length l.rest
