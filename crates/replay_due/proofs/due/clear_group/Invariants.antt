-- The words so far are none.
use Rattle.std.proofs.Common.{◌+◌, ◌≤◌}
use Rattle.replay_due.specs.Due.{AreCleared}
use Rattle.replay_due.proofs.due.clear_group.Given as goal

abbrev pub invariant-places : goal.invariant-places
invariant-places l = record {
  low : l.place ≤ l.start + 64;
  cleared : AreCleared l.initial.words l.words l.start l.place;
}
