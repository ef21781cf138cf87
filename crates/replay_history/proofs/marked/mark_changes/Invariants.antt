-- The readers of the changes so far are due.
use Rattle.std.proofs.Common.{◌≡◌, length}
use Rattle.replay_fans.specs.Marks.{OnlyMore}
use Rattle.replay_history.specs.Watched.{AreDueTo}
use Rattle.replay_history.proofs.marked.mark_changes.Given as goal

abbrev pub invariant-changes : goal.invariant-changes
invariant-changes l = record {
  long : length l.due ≡ length l.initial.due;
  more : OnlyMore l.initial.due l.due;
  marked : AreDueTo l.readers l.changes l.change-index l.due;
}
