-- The steps so far are put, what waits is due, and the values are as they were.
use Rattle.std.proofs.Common.{◌≡◌, ℕ, ◌*◌, ◌<◌}
use Rattle.design_circuit.specs.Circuit.{job_in}
use Rattle.design_circuit.specs.Job.{places_of}
use Rattle.replay_forces.specs.Made.{AreForcesTo}
use Rattle.replay_forces.specs.Still.{AreAwaited}
use Rattle.replay_due.specs.Due.{HasRoomFor}
use Rattle.replay_forces.proofs.steps.put_steps.Given as goal

abbrev pub invariant-steps : goal.invariant-steps
invariant-steps g l = record {
  job : g.S.Moving.job l.values ≡ job_in l.circuit;
  reads : g.S.Source.reads l.values ≡ g.S.Source.reads l.initial.values;
  has : (place : ℕ) → place < places_of (job_in l.circuit) → g.S.Source.has l.values place;
  due : AreAwaited (job_in l.circuit) (g.S.Source.reads l.initial.values) l.number l.waiting.due;
  ahead : HasRoomFor l.waiting.ahead (job_in l.circuit).width;
  made : AreForcesTo (job_in l.circuit) (g.S.Source.reads l.initial.values) (l.number * (job_in l.circuit).width) l.made.row.items
      l.made.events.items;
}
