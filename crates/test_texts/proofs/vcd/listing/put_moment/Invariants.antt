-- The cursor stays one of the recording.
use Rattle.std.proofs.Common.{◌≡◌}
use Rattle.test_texts.proofs.vcd.listing.put_moment.Given as goal

abbrev pub invariant-loop-bit : goal.invariant-loop-bit
invariant-loop-bit l = record {
  same : l.cursor ≡ l.initial.cursor;
}
