-- The nets passed over haven't the index.
use Rattle.std.proofs.Common.{◌≡◌, ◌<◌, length, All}
use Rattle.recording_binding.specs.Bits as spec
use Rattle.recording_binding.proofs.bits.scanned_from.Given as goal

abbrev pub invariant-nets : goal.invariant-nets
invariant-nets l = record {
  same : spec.from_index l.design l.index l.rest ≡ spec.from_index l.design l.index l.nets;
  nets : All (λ net. net < length l.design.nets) l.rest;
}

abbrev pub decreases-nets : goal.decreases-nets
decreases-nets l = length l.rest
