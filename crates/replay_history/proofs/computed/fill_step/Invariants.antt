-- The positions so far are filled, and the step is under way.
use Rattle.std.proofs.Common.{◌≡◌, ◌+◌, ◌*◌}
use Rattle.replay_history.specs.Filled.{IsFilled}
use Rattle.replay_history.specs.Going.{forced_in, job_at}
use Rattle.replay_history.proofs.computed.fill_step.Given as goal

abbrev pub invariant-positions : goal.invariant-positions
invariant-positions l = record {
  under_way : l.writer.step ≡ l.step.number;
  filled : IsFilled (job_at l.step) (forced_in l.step) (l.step.number * (job_at l.step).width + l.position) l.writer.history;
}
