-- The times so far are earlier.
use Rattle.std.proofs.Common.{ℕ, ◌<◌, slice_index}
use Rattle.replay_code.proofs.lookup.moment_from.Given as goal

abbrev pub invariant-times : goal.invariant-times
invariant-times l = (k : ℕ) → k < l.next → slice_index l.stim.times k < l.time
