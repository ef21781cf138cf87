-- The forces of values: those under which the replay shows them, and no more.
use Rattle.std.specs.Prelude.{◌≡◌, ℕ, zero, suc, ◌<◌, Option, None, Some, List, [], ◌∷◌, ◌++◌, slice_index_or}
use Rattle.std.specs.Prelude.{if◌then◌else◌}
use Rattle.design_cell.specs.declared.value.Value.{Value}
use Rattle.design_circuit.specs.Force.{forced_by}
use Rattle.design_circuit.specs.Job.{Job, step_of, net_of, places_of}
use Rattle.design_circuit.specs.Replay.{Held, blank, driven, kept, replay_under}
use Rattle.design_circuit.specs.declared.force.Event.{Event}
use Rattle.replay_forces.specs.Changes.{changes, changes_by, is_same}

-- A place is forced to a value where its driver gives another.
abbrev pub needed : Value → Value → Option Value
needed given value = if is_same given value then None else Some value

-- what the driver of a place gives, from what the places before it have
abbrev pub given_by : Job → (ℕ → Held) → ℕ → Value
given_by j earlier place = driven j earlier (step_of j place) (net_of j place) (j.driver (net_of j place))

-- What the driver of a place gives in the replay under a forcing of the places before it.
abbrev pub given_under : Job → (ℕ → Option Value) → ℕ → Value
given_under j forced place = given_by j (λ k. slice_index_or (replay_under j forced place) k blank) place

-- Events force a place to its value exactly where the driver's value in the replay under the forces so far is another,
-- and none of them changes nothing.
pub record AreForcesOf (j : Job) (values : ℕ → Value) (events : List Event) : Type 0 where
  pub forced : (place : ℕ) → place < places_of j
      → forced_by j events place ≡ needed (given_under j (forced_by j events) place) (values place)
  pub least : events ≡ changes_by j events

-- The same made place by place: each place shows its value and keeps what its driver keeps.
abbrev pub held_as : Job → (ℕ → Value) → (ℕ → Held) → ℕ → Held
held_as j values earlier place = record {
  shown = values place;
  kept = kept j earlier (step_of j place) (net_of j place) (j.driver (net_of j place));
}

unfoldable pub showing : Job → (ℕ → Value) → ℕ → List Held
showing j values zero = []
showing j values (suc n) =
    showing j values n ++ held_as j values (λ k. slice_index_or (showing j values n) k blank) n ∷ []

-- what the driver of a place gives then
unfoldable pub given_of : Job → (ℕ → Value) → ℕ → Value
given_of j values place = given_by j (λ k. slice_index_or (showing j values place) k blank) place

-- and to what the place is forced
unfoldable pub forcing : Job → (ℕ → Value) → ℕ → Option Value
forcing j values place = needed (given_of j values place) (values place)

abbrev pub forces_of : Job → (ℕ → Value) → List Event
forces_of j values = changes j (forcing j values) (places_of j)
