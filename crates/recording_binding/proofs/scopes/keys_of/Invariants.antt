-- What is kept of the scopes so far.
use Rattle.recording_binding.specs.Scopes.{KeepsAll}
use Rattle.recording_binding.proofs.scopes.keys_of.Given as goal

abbrev pub invariant-scopes : goal.invariant-scopes
invariant-scopes l = KeepsAll l.names l.scope l.recording.scopes l.keys.items l.number
