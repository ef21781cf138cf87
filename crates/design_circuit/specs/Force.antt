-- Forces: which places show another value than their driver's.
use Rattle.std.specs.Prelude.{ℕ, ◌==◌, ◌&&◌, Bool, Option, List, map, find, reverse, nat_le}
use Rattle.std.specs.List.{AllByRecursion}
use Rattle.std.specs.List.Sorted.{IsStrictlyIncreasing}
use Rattle.std.specs.Prelude.{option_and_then}
use Rattle.design_cell.specs.declared.value.Value.{Value}
use Rattle.design_circuit.specs.Job.{Job, number_of, step_of, net_of}
use Rattle.design_circuit.specs.Filling.{IsPlace}
use Rattle.design_circuit.specs.declared.force.Event.{Event}
use Rattle.design_circuit.specs.declared.place.Place.{Place}

-- an event of the net, at the step or before it
abbrev pub is_up_to : ℕ → ℕ → Event → Bool
is_up_to step net event = (event.net == net) && nat_le event.step step

-- A net is forced at a step to the value of its last event up to that step, and isn't forced where that is a release or
-- there is none.
abbrev pub forced_at : List Event → ℕ → ℕ → Option Value
forced_at events step net = option_and_then (λ (event : Event). event.value) (find (is_up_to step net) (reverse events))

-- the value to which the place of a number is forced
abbrev pub forced_by : Job → List Event → ℕ → Option Value
forced_by j events place = forced_at events (step_of j place) (net_of j place)

abbrev pub place_of : Event → Place
place_of event = record { step = event.step; net = event.net }

-- Events stand at places of the job, in place order, at most one a place.
pub record AreEvents (j : Job) (events : List Event) : Type 0 where
  pub places : AllByRecursion (λ event. IsPlace j (place_of event)) events
  pub ascending : IsStrictlyIncreasing (map (λ event. number_of j (place_of event)) events)
