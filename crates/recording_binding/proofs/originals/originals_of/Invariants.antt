-- The originals of the nets so far.
use Rattle.std.proofs.Common.{◌≡◌, ℕ, ◌<◌, length, slice_index}
use Rattle.recording_binding.specs.Originals.{original_of}
use Rattle.recording_binding.proofs.originals.originals_of.Given as goal

abbrev pub invariant-positions : goal.invariant-positions
invariant-positions l = record {
  as_many : length l.originals.items ≡ length l.design.nets;
  each : (q : ℕ) → q < l.position → slice_index l.originals.items (slice_index l.order q) ≡ original_of l.design (slice_index l.order q);
}
