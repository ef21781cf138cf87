-- The words so far are none.
use Rattle.std.proofs.Common.{◌≡◌, ℕ, ◌<◌, slice_index}
use Rattle.replay_due.proofs.due.clear_all.Given as goal

abbrev pub invariant-words : goal.invariant-words
invariant-words l = (k : ℕ) → k < l.word-index → slice_index l.words k ≡ 0
