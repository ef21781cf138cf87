-- The steps so far are filled, the events up to the one before are taken, and what waits is due.
use Rattle.std.proofs.Common.{◌≡◌, ◌<◌, ◌-◌, ◌*◌}
use Rattle.design_circuit.specs.Circuit.{job_in}
use Rattle.design_circuit.specs.Force.{forced_by}
use Rattle.replay_due.specs.Due.{HasRoomFor}
use Rattle.replay_history.specs.Filled.{IsFilled}
use Rattle.replay_history.specs.Forced.{HasForced, HasTaken}
use Rattle.replay_history.specs.Sweep.{AreAwaited}
use Rattle.replay_history.proofs.steps.fill_steps.Given as goal

abbrev pub invariant-steps : goal.invariant-steps
invariant-steps l = record {
  under_way : l.writer.step ≡ l.number - 1;
  filled : IsFilled (job_in l.circuit) (forced_by (job_in l.circuit) l.events) (l.number * (job_in l.circuit).width) l.writer.history;
  taken : HasTaken (job_in l.circuit).width l.events l.number l.taken l.forced;
  before : 0 < l.number → HasForced (job_in l.circuit).width l.events (l.number - 1) l.forced;
  due : AreAwaited (job_in l.circuit) (forced_by (job_in l.circuit) l.events) l.number l.waiting.due;
  ahead : HasRoomFor l.waiting.ahead (job_in l.circuit).width;
}
