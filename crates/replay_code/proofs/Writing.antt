-- Events of a job can be written.
use Rattle.std.proofs.Common.{ℕ, List, [], ◌∷◌}
use Rattle.std.specs.List.{AllByRecursion}
use Rattle.design_circuit.specs.Filling.{IsPlace}
use Rattle.design_circuit.specs.Force.{AreEvents, place_of}
use Rattle.design_circuit.specs.Job.{job_of}
use Rattle.design_circuit.specs.declared.design.Design.{Design}
use Rattle.design_circuit.specs.declared.force.Event.{Event}
use Rattle.design_circuit.specs.declared.stim.Stim.{Stim}
use Rattle.replay_code.specs.Steps.{HasEvents}

each : (design : Design) (order : List ℕ) (stim : Stim) (events : List Event) → AllByRecursion (λ event. IsPlace (job_of design order stim) (place_of event)) events → HasEvents design stim events
each design order stim [] places = tt
each design order stim (event ∷ events) places = (record { net = places.0.net; step = places.0.step }, each design order stim events places.1)

pub can_be_written : (design : Design) (order : List ℕ) (stim : Stim) (events : List Event) → AreEvents (job_of design order stim) events → HasEvents design stim events
can_be_written design order stim events are = each design order stim events are.places
