-- The empty slots say nothing new.
use Rattle.std.proofs.Common.{◌≡◌, ℕ, ◌+◌, ◌-◌, slice_index, vec_len}
use Rattle.recording_codes.proofs.codes.reach.Given as goal

abbrev pub invariant-slots : goal.invariant-slots
invariant-slots l = (k : ℕ) → slice_index l.slots.items k ≡ slice_index l.fn.slots.items k

abbrev pub decreases-slots : goal.decreases-slots
decreases-slots l = l.slot + 1 - vec_len l.slots
