-- The last bracket so far.
use Rattle.std.proofs.Common.{◌≡◌, ◌+◌, length}
use Rattle.recording_reader.specs.Bytes.{last_bracket, bracket_from}
use Rattle.recording_reader.proofs.ranges.last_bracket.Given as goal

abbrev pub invariant-bytes : goal.invariant-bytes
invariant-bytes l = record {
  reads : last_bracket l.text ≡ bracket_from l.found l.place l.rest;
  fits : l.place + length l.rest ≡ length l.text;
}

abbrev pub decreases-bytes : goal.decreases-bytes
decreases-bytes l = length l.rest
