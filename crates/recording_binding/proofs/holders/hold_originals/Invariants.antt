-- The originals of the bits so far are held.
use Rattle.std.proofs.Common.{◌≡◌, ℕ, None, length, map, slice_index, slice_index_or, take}
use Rattle.recording_binding.specs.Holding.{holder_in, or_next}
use Rattle.recording_binding.proofs.holders.hold_originals.Given as goal

abbrev pub invariant-bits : goal.invariant-bits
invariant-bits l = record {
  long : length l.holders ≡ length l.initial.holders;
  each : (net : ℕ) → slice_index_or l.holders net None ≡ or_next (slice_index_or l.initial.holders net None) (holder_in l.variable (take l.bit (map (slice_index l.originals) l.bits)) net);
}
