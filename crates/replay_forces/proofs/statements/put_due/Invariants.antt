-- All is put up to the next position that is due, or to the end of the step.
use Rattle.std.proofs.Common.{◌≡◌, ◌+◌, ◌-◌, ◌*◌, min}
use Rattle.design_circuit.specs.Circuit.{job_in}
use Rattle.replay_forces.specs.Made.{AreChangesTo}
use Rattle.replay_forces.proofs.statements.put_due.Given as goal

abbrev pub invariant-positions : goal.invariant-positions
invariant-positions l = record {
  made : AreChangesTo (job_in l.step.circuit.now) l.step.statements.now (l.step.number * (job_in l.step.circuit.now).width + min l.position (job_in l.step.circuit.now).width) l.changes.row.items l.changes.events.items;
  due : l.changes.due ≡ l.initial.changes.due;
}

abbrev pub decreases-positions : goal.decreases-positions
decreases-positions l = l.nets - l.position
