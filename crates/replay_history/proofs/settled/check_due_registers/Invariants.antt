-- The positions before the next one that is due are settled.
use Rattle.std.proofs.Common.{ℕ, ◌<◌, ◌-◌}
use Rattle.replay_history.specs.Sides.{job_beside}
use Rattle.replay_history.proofs.Watching.{SettlesOn}
use Rattle.replay_history.proofs.settled.check_due_registers.Given as goal

abbrev pub invariant-positions : goal.invariant-positions
invariant-positions l = (p : ℕ) → p < l.position → p < (job_beside l.sides).width → SettlesOn l.sides l.moment p

abbrev pub decreases-positions : goal.decreases-positions
decreases-positions l = l.nets - l.position
