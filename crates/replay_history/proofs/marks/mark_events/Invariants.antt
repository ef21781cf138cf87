-- The events so far are due.
use Rattle.std.proofs.Common.{◌≡◌, length}
use Rattle.design_circuit.specs.Circuit.{job_in}
use Rattle.replay_fans.specs.Marks.{OnlyMore}
use Rattle.replay_history.specs.Marks.{AreEventsDue}
use Rattle.replay_history.proofs.marks.mark_events.Given as goal

abbrev pub invariant-events : goal.invariant-events
invariant-events l = record {
  long : length l.due ≡ length l.initial.due;
  more : OnlyMore l.initial.due l.due;
  events : AreEventsDue (job_in l.circuit) l.events l.from l.index l.due;
}
