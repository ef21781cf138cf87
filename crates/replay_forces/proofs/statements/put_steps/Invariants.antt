-- The statements of the steps so far are taken, and what they change is put.
use Rattle.std.proofs.Common.{◌*◌}
use Rattle.design_circuit.specs.Circuit.{job_in}
use Rattle.replay_history.specs.Forced.{HasTaken}
use Rattle.replay_forces.specs.Made.{HasChangesTo}
use Rattle.replay_forces.proofs.Stating.{WereForced}
use Rattle.replay_forces.proofs.statements.put_steps.Given as goal

abbrev pub invariant-steps : goal.invariant-steps
invariant-steps l = record {
  taken : HasTaken (job_in l.circuit).width l.statements l.number l.taken l.forced;
  were : WereForced (job_in l.circuit) l.statements l.number l.forced;
  changes : HasChangesTo (job_in l.circuit) l.statements (l.number * (job_in l.circuit).width) l.changes;
}
