-- The path of the scope that is left, and the names so far in turn.
use Rattle.std.proofs.Common.{◌≡◌, ◌<◌, ◌++◌, length, reverse}
use Rattle.recording_reader.specs.Recording.{path_at}
use Rattle.cmd_job.proofs.names.path_of.Given as goal

abbrev pub invariant-scopes : goal.invariant-scopes
invariant-scopes l = record {
  known : l.at < length l.recording.scopes;
  path : path_at l.recording.scopes l.at ++ reverse l.names.items ≡ path_at l.recording.scopes l.scope;
}

abbrev pub decreases-scopes : goal.decreases-scopes
decreases-scopes l = l.at
