-- Laws of forcings and of the forces of values.
use Rattle.std.specs.Prelude.{◌≡◌, ℕ, ◌<◌, Option, List}
use Rattle.design_cell.specs.declared.value.Value.{Value}
use Rattle.design_circuit.specs.Fits.{Fits}
use Rattle.design_circuit.specs.Force.{AreEvents, forced_by}
use Rattle.design_circuit.specs.Handed.{IsReplayUnder, shown_of}
use Rattle.design_circuit.specs.History.{HistoryView}
use Rattle.design_circuit.specs.Job.{Job, places_of}
use Rattle.design_circuit.specs.declared.force.Event.{Event}
use Rattle.replay_forces.specs.Changes.{changes}
use Rattle.replay_forces.specs.ForcesOf.{AreForcesOf, forces_of}

-- The changes of any forcing are events of the job, and force each place as it says.
abbrev pub ChangesForce : Type 0
ChangesForce = (j : Job) (forced : ℕ → Option Value) → Fits j
    → AreEvents j (changes j forced (places_of j))
    × ((place : ℕ) → place < places_of j → forced_by j (changes j forced (places_of j)) place ≡ forced place)

-- The replay under the changes of a forcing is the replay under the forcing.
abbrev pub ChangesReplay : Type 0
ChangesReplay = (j : Job) (forced : ℕ → Option Value) (history : HistoryView) → Fits j
    → IsReplayUnder j (forced_by j (changes j forced (places_of j))) history → IsReplayUnder j forced history

-- Any values have forces.
abbrev pub ForcesExist : Type 0
ForcesExist = (j : Job) (values : ℕ → Value) → Fits j → AreForcesOf j values (forces_of j values)

-- They have no others.
abbrev pub ForcesAreOne : Type 0
ForcesAreOne = (j : Job) (values : ℕ → Value) (events : List Event) → Fits j
    → AreForcesOf j values events → events ≡ forces_of j values

-- They are events of the job.
abbrev pub ForcesAreEvents : Type 0
ForcesAreEvents = (j : Job) (values : ℕ → Value) (events : List Event) → Fits j
    → AreForcesOf j values events → AreEvents j events

-- The replay under them shows the value at each place.
abbrev pub ForcesShow : Type 0
ForcesShow = (j : Job) (values : ℕ → Value) (events : List Event) (history : HistoryView) → Fits j
    → AreForcesOf j values events → IsReplayUnder j (forced_by j events) history
    → (place : ℕ) → place < places_of j → shown_of j history place ≡ values place
