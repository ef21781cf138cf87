-- The positions so far are due.
use Rattle.std.proofs.Common.{◌≡◌, length}
use Rattle.replay_fans.specs.Marks.{OnlyMore}
use Rattle.replay_due.specs.Due.{AreAllDue}
use Rattle.wave_due.proofs.begin.mark_every.Given as goal

abbrev pub invariant-positions : goal.invariant-positions
invariant-positions l = record {
  long : length l.due ≡ length l.initial.due;
  more : OnlyMore l.initial.due l.due;
  all : AreAllDue l.due l.position;
}
