-- Where the next place stands.
use Rattle.std.specs.Prelude.{◌≡◌, ℕ, ◌%◌, ◌<◌, ◌^◌, length, slice_index}
use Rattle.design_circuit.specs.Job.{Job, places_of, step_of}
use Rattle.design_circuit.specs.declared.place.Place.{Place}
use Rattle.wave_bytes.specs.declared.front.Front.{Front}

-- A place of the job stands at a step and a position.
pub record IsAt (j : Job) (place : ℕ) (front : Front) : Type 0 where
  pub step : front.step ≡ step_of j place
  pub position : front.position ≡ place % j.width

-- So it does, if it is one of the job.
abbrev pub StandsAt : Job → ℕ → Front → Type 0
StandsAt j place front = place < places_of j → IsAt j place front

-- A place can stand there, and this one does.
pub record IsFront (j : Job) (front : Front) : Type 0 where
  pub step : front.step < 2 ^ 32
  pub position : front.position < length j.order
  pub few : length j.order < 2 ^ 32

abbrev pub place_of_front : Job → Front → Place
place_of_front j front = record { step = front.step; net = slice_index j.order front.position }
