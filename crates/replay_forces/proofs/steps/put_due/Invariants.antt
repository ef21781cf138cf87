-- All is put up to the next position that is due, or to the end of the step.
use Rattle.std.proofs.Common.{◌+◌, ◌-◌, ◌*◌, min}
use Rattle.design_circuit.specs.Circuit.{job_in}
use Rattle.replay_forces.specs.Made.{AreForcesTo}
use Rattle.replay_forces.proofs.steps.put_due.Given as goal

abbrev pub invariant-positions : goal.invariant-positions
invariant-positions g l = AreForcesTo (job_in l.step.circuit.now) (g.S.Source.reads l.values) (l.step.number * (job_in l.step.circuit.now).width + min l.position (job_in l.step.circuit.now).width) l.made.row.items l.made.events.items

abbrev pub decreases-positions : goal.decreases-positions
decreases-positions g l = l.nets - l.position
