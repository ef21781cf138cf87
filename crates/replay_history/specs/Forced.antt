-- To which values nets are forced at a step.
use Rattle.std.specs.Prelude.{◌≡◌, ℕ, ◌<◌, ◌≤◌, ◌==◌, ◌&&◌, Bool, Option, None, List, find, length, reverse, take}
use Rattle.std.specs.Prelude.{nat_le, nat_lt, slice_index_or}
use Rattle.std.specs.Prelude.{option_and_then}
use Rattle.design_cell.specs.declared.value.Value.{Value}
use Rattle.design_circuit.specs.Force.{forced_at}
use Rattle.design_circuit.specs.declared.force.Event.{Event}

-- The value of the last event of a net, none where that is a release or there is no event.
abbrev pub last_forced : List Event → ℕ → Option Value
last_forced events net =
    option_and_then (λ (event : Event). event.value) (find (λ (event : Event). event.net == net) (reverse events))

abbrev pub no_event : Event
no_event = record { step = 0; net = 0; value = None }

abbrev pub event_at : List Event → ℕ → Event
event_at events n = slice_index_or events n no_event

-- The steps of events never fall, and their nets are among so many.
pub record AreOrdered (nets : ℕ) (events : List Event) : Type 0 where
  pub steps : (i k : ℕ) → i < k → k < length events → (event_at events i).step ≤ (event_at events k).step
  pub within : (i : ℕ) → i < length events → (event_at events i).net < nets

-- Behind the first n events one more comes up to the step.
abbrev pub comes_up_to : List Event → ℕ → ℕ → Bool
comes_up_to events n step = nat_lt n (length events) && nat_le (event_at events n).step step

-- The first n events come up to the step, and the values have for each net the last of them.
pub record HasTaken (nets : ℕ) (events : List Event) (step n : ℕ) (values : List (Option Value)) : Type 0 where
  pub few : n ≤ length events
  pub up_to : (i : ℕ) → i < n → (event_at events i).step ≤ step
  pub long : length values ≡ nets
  pub last : (net : ℕ) → net < nets → slice_index_or values net None ≡ last_forced (take n events) net

-- The values have for each net the value to which it is forced at a step.
pub record HasForced (nets : ℕ) (events : List Event) (step : ℕ) (values : List (Option Value)) : Type 0 where
  pub long : length values ≡ nets
  pub value : (net : ℕ) → net < nets → slice_index_or values net None ≡ forced_at events step net

-- Among the events from one on, up to another, none is of the net.
abbrev pub NoEventOf : List Event → ℕ → ℕ → ℕ → Type 0
NoEventOf events from to net = (i : ℕ) → from ≤ i → i < to → (event_at events i).net ≡ net → ⊥

-- The values have for each net the same, but for the nets of these events.
abbrev pub ChangesOnlyBy : List Event → ℕ → ℕ → List (Option Value) → List (Option Value) → Type 0
ChangesOnlyBy events from to old new =
    (net : ℕ) → NoEventOf events from to net → slice_index_or new net None ≡ slice_index_or old net None
