-- Forcings as events: an event where a net is forced otherwise than one step before, and no other.
use Rattle.std.specs.Prelude.{ℕ, zero, suc, ◌-◌, Bool, true, false, Option, None, Some, List, [], ◌∷◌, ◌++◌, nat_lt}
use Rattle.std.specs.Prelude.{if◌then◌else◌}
use Rattle.design_cell.specs.declared.value.Value.{Value}
use Rattle.design_cell.specs.declared.value.Value.TheVariants.{Zero, One, X, Z}
use Rattle.design_circuit.specs.Force.{forced_by}
use Rattle.design_circuit.specs.Job.{Job, step_of, net_of, places_of}
use Rattle.design_circuit.specs.declared.force.Event.{Event}

-- all four values told apart
abbrev pub is_same : Value → Value → Bool
is_same Zero Zero = true
is_same One One = true
is_same X X = true
is_same Z Z = true
is_same value other = false

-- forced to the same value, or both not forced
abbrev pub is_same_force : Option Value → Option Value → Bool
is_same_force None None = true
is_same_force (Some value) (Some other) = is_same value other
is_same_force force other = false

-- What the net of a place has one step before, of what each place has; before step 0 each net has the same.
abbrev pub one_before : {A : Type 0} → Job → A → (ℕ → A) → ℕ → A
one_before j early has place = if nat_lt place j.width then early else has (place - j.width)

-- A forcing says to what each place is forced. One step before, the net of a place was forced to this; before step 0 no
-- net is forced.
abbrev pub forced_before : Job → (ℕ → Option Value) → ℕ → Option Value
forced_before j forced place = one_before j None forced place

-- the event that forces the net of a place from there on, or releases it
abbrev pub event_of : Job → ℕ → Option Value → Event
event_of j place force = record { step = step_of j place; net = net_of j place; value = force }

-- An event, unless the net was forced so before.
abbrev pub unless_same : Option Value → Option Value → Event → List Event
unless_same was force event = if is_same_force was force then [] else event ∷ []

-- the event of a place, where its net is forced otherwise there than one step before
abbrev pub change_at : Job → (ℕ → Option Value) → ℕ → List Event
change_at j forced place = unless_same (forced_before j forced place) (forced place) (event_of j place (forced place))

-- The events of the first n places.
unfoldable pub changes : Job → (ℕ → Option Value) → ℕ → List Event
changes j forced zero = []
changes j forced (suc n) = changes j forced n ++ change_at j forced n

-- What events change: of several for one net in a step the last counts, and one that changes nothing is dropped.
abbrev pub changes_by : Job → List Event → List Event
changes_by j events = changes j (forced_by j events) (places_of j)
