-- The nets of the changes so far are due.
use Rattle.std.proofs.Common.{◌≡◌, length}
use Rattle.design_circuit.specs.Circuit.{job_in}
use Rattle.replay_fans.specs.Marks.{AreChangesDue, OnlyMore}
use Rattle.replay_fans.proofs.marks.mark_changes.Given as goal

abbrev pub invariant-changes : goal.invariant-changes
invariant-changes l = record {
  long : length l.due ≡ length l.initial.due;
  more : OnlyMore l.initial.due l.due;
  changes : AreChangesDue (job_in l.circuit) l.change-index l.changes l.due;
}
