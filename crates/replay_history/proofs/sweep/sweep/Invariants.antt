-- All is gone over up to the next position that is due, or to the end.
use Rattle.std.proofs.Common.{◌≡◌, ◌-◌, min}
use Rattle.replay_history.specs.Going.{forced_in, job_at}
use Rattle.replay_history.proofs.Sweeps.{IsGone}
use Rattle.replay_history.proofs.sweep.sweep.Given as goal

abbrev pub invariant-positions : goal.invariant-positions
invariant-positions l = record {
  under_way : l.writer.step ≡ l.step.number;
  gone : IsGone (job_at l.step) (forced_in l.step) l.step.number (min l.position (job_at l.step).width) l.writer.history l.waiting.due l.waiting.ahead;
}

abbrev pub decreases-positions : goal.decreases-positions
decreases-positions l = l.nets - l.position
