-- So many are made.
use Rattle.std.proofs.Common.{◌≡◌, [], replicate}
use Rattle.wave_bytes.proofs.rows.empty_tracks.Given as goal

abbrev pub invariant-positions : goal.invariant-positions
invariant-positions l = record { items : l.tracks.items ≡ replicate l.counter [] }
