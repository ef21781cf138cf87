-- So many codes have no changes.
use Rattle.std.proofs.Common.{◌≡◌, [], replicate}
use Rattle.recording_reader.proofs.body.open_tracks.Given as goal

abbrev pub invariant-loop-i : goal.invariant-loop-i
invariant-loop-i l = record {
  is : l.changes ≡ record { moment = 0; tracks = replicate l.i [] };
}
