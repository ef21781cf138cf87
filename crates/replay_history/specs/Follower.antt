-- What follows both sides of a comparison from moment to moment.
use Rattle.std.specs.Prelude.{◌≡◌, ℕ, ◌≤◌}
use Rattle.design_circuit.specs.Handed.{ShowsPlace}
use Rattle.design_circuit.specs.Settled.{last_step}
use Rattle.design_circuit.specs.declared.circuit.Circuit.{Circuit}
use Rattle.replay_history.specs.Sides.{job_beside}
use Rattle.replay_history.specs.declared.follower.Follower.{Follower}
use Rattle.replay_history.specs.declared.sides.Sides.{Sides}

-- It reads the history and the recording.
pub record IsAlong (sides : Sides) (follower : Follower) : Type 0 where
  pub history : follower.row.history ≡ sides.history.now
  pub before : follower.before.history ≡ sides.history.now
  pub recorded : follower.recorded ≡ sides.recording.now

-- It stands at the last step of a moment.
pub record IsAt (sides : Sides) (moment : ℕ) (follower : Follower) : Type 0 where
  pub along : IsAlong sides follower
  pub step : follower.row.step ≡ last_step (job_beside sides) moment

-- It stands there or before it.
pub record IsUpTo (sides : Sides) (moment : ℕ) (follower : Follower) : Type 0 where
  pub along : IsAlong sides follower
  pub step : follower.row.step ≤ last_step (job_beside sides) moment

-- It shows something at a place of a circuit that fits.
pub record ShowsAlong (circuit : Circuit) (follower : Follower) (place : ℕ) : Type 0 where
  pub shows : ShowsPlace circuit follower.row.history place
  pub same : follower.before.history ≡ follower.row.history
