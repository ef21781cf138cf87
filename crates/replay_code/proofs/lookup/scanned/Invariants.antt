-- None of the nets so far has the index.
use Rattle.std.proofs.Common.{◌≡◌, ℕ, ◌<◌, false, slice_index}
use Rattle.recording_binding.specs.Naming.{index_of}
use Rattle.replay_code.specs.Lookup.{same_index}
use Rattle.replay_code.proofs.lookup.scanned.Given as goal

abbrev pub invariant-nets : goal.invariant-nets
invariant-nets l = (k : ℕ) → k < l.net-index → same_index (index_of l.design (slice_index l.nets k)) l.index ≡ false
