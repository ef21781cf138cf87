-- The variables so far are due where they are bound.
use Rattle.std.proofs.Common.{◌≡◌, ℕ, ◌<◌, length, slice_index}
use Rattle.replay_fans.specs.Marks.{OnlyMore}
use Rattle.replay_history.specs.Watched.{IsNumberDue}
use Rattle.replay_history.proofs.marked.mark_recorded.Given as goal

abbrev pub invariant-variables : goal.invariant-variables
invariant-variables l = record {
  long : length l.due ≡ length l.initial.due;
  more : OnlyMore l.initial.due l.due;
  marked : (k : ℕ) → k < l.variable-index → IsNumberDue l.watchers.numbers.items (slice_index l.changed k) l.due;
}
