-- The sources so far are due, or aren't stirred.
use Rattle.std.proofs.Common.{◌≡◌, length}
use Rattle.design_circuit.specs.Circuit.{job_in}
use Rattle.replay_fans.specs.Marks.{OnlyMore}
use Rattle.wave_due.specs.Sources.{AreSourcesDue}
use Rattle.wave_due.proofs.sources.mark_listed.Given as goal

abbrev pub invariant-sources : goal.invariant-sources
invariant-sources l = record {
  long : length l.due ≡ length l.initial.due;
  more : OnlyMore l.initial.due l.due;
  listed : AreSourcesDue (job_in l.circuit) l.step l.sources l.position-index l.due;
}
