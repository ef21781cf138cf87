-- A circuit as a job, and its places.
use Rattle.std.specs.Prelude.{◌≡◌, ℕ, ◌+◌, ◌*◌, ◌%◌, ◌<◌}
use Rattle.design_circuit.specs.Job.{Job, job_of, at, step_of, net_of, places_of}
use Rattle.design_circuit.specs.declared.circuit.Circuit.{Circuit}
use Rattle.design_circuit.specs.declared.spot.Spot.{Spot}

-- The job of a circuit.
abbrev pub job_in : Circuit → Job
job_in circuit = job_of circuit.design.now circuit.order.now circuit.stim.now

-- A spot of a job is the step, the moment, the position and the net of one of its places.
pub record IsSpot (j : Job) (place : ℕ) (spot : Spot) : Type 0 where
  pub step : spot.step ≡ step_of j place
  pub position : spot.position ≡ place % j.width
  pub net : spot.net ≡ net_of j place
  pub step_within : spot.step < j.moments * j.rounds
  pub position_within : spot.position < j.width
  pub net_within : spot.net < j.width
  pub place_is : spot.step * j.width + spot.position ≡ place
  pub place_within : place < places_of j

-- A net of the job whose place at a step has a value.
pub record Reach (j : Job) (has : ℕ → Type 0) (step net : ℕ) : Type 0 where
  pub within : net < j.width
  pub has_it : has (at j step net)
