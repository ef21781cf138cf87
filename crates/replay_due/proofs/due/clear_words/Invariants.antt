-- The words of the groups so far are none.
use Rattle.std.proofs.Common.{◌≡◌, ◌<◌, ◌*◌, ℕ, slice_index}
use Rattle.replay_due.specs.Due.{Covers}
use Rattle.replay_due.proofs.due.clear_words.Given as goal

abbrev pub invariant-groups : goal.invariant-groups
invariant-groups l = record {
  zeros : (k : ℕ) → k < l.group * 64 → slice_index l.words k ≡ 0;
  covers : Covers l.groups l.words;
}
