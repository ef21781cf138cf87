-- The positions so far are settled.
use Rattle.replay_history.specs.Sides.{job_beside}
use Rattle.replay_history.proofs.Faults.{SettledUpTo}
use Rattle.replay_history.proofs.settled.check_settled.Given as goal

abbrev pub invariant-positions : goal.invariant-positions
invariant-positions l = SettledUpTo (job_beside l.sides) l.moment l.position
