-- The rounds so far.
use Rattle.std.proofs.Common.{◌≡◌, ◌+◌, ◌-◌, length}
use Rattle.replay_history.specs.Watched.{ShowSame}
use Rattle.replay_history.proofs.marked.mark_shown.Given as goal

abbrev pub invariant-rounds : goal.invariant-rounds
invariant-rounds l = record {
  long : length l.due ≡ length l.initial.due;
  same : ShowSame l.sides l.watchers.variables (l.first - 1) (l.first + l.round - 1) l.due;
}
