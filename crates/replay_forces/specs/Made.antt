-- Changes as they are made, place by place, from what each net has one step before. No contract of a public call names
-- these.
use Rattle.std.specs.Prelude.{◌≡◌, ℕ, ◌+◌, ◌*◌, ◌%◌, ◌<◌, ◌≤◌, false, Option, None, List, length, slice_index}
use Rattle.std.specs.Prelude.{slice_index_or}
use Rattle.design_cell.specs.declared.value.Value.{Value}
use Rattle.design_cell.specs.declared.value.Value.TheVariants.{X}
use Rattle.design_circuit.specs.Force.{forced_by}
use Rattle.design_circuit.specs.Job.{Job}
use Rattle.design_circuit.specs.declared.spot.Spot.{Spot}
use Rattle.design_circuit.specs.declared.force.Event.{Event}
use Rattle.replay_history.specs.Forced.{NoEventOf}
use Rattle.replay_due.specs.Due.{HasRoomFor, is_due}
use Rattle.replay_forces.specs.Changes.{changes, forced_before, one_before}
use Rattle.replay_forces.specs.ForcesOf.{forcing, given_of}
use Rattle.replay_forces.specs.declared.given.MadeForces.{MadeForces}
use Rattle.replay_forces.specs.declared.statements.Changes.{Changes}

-- A row has, at the position of each place from one on and for as many places as there are nets, what its net has one
-- step before.
pub record IsRow {A : Type 0} (j : Job) (early : A) (has : ℕ → A) (n : ℕ) (row : List A) : Type 0 where
  pub long : length row ≡ j.width
  pub before : (place : ℕ) → n ≤ place → place < n + j.width
      → slice_index_or row (place % j.width) early ≡ one_before j early has place

-- The list is the row of the next place, and the events that are put are those of the first n places.
pub record IsMade {A : Type 0} (j : Job) (early : A) (has : ℕ → A) (forced : ℕ → Option Value)
    (n : ℕ) (list : List A) (put : List Event) : Type 0 where
  pub row : IsRow j early has n list
  pub events : put ≡ changes j forced n

-- A place rests where it has what its net has one step before, and is forced as its net is there.
pub record Rests {A : Type 0} (j : Job) (early : A) (has : ℕ → A) (forced : ℕ → Option Value) (place : ℕ) : Type 0 where
  pub same : has place ≡ one_before j early has place
  pub forces : forced place ≡ forced_before j forced place

-- Each place of a step is due, or rests.
abbrev pub RestUnlessDue : {A : Type 0} → Job → A → (ℕ → A) → (ℕ → Option Value) → ℕ → List ℕ → Type 0
RestUnlessDue j early has forced step due = (p : ℕ) → p < j.width → is_due due p ≡ false
    → Rests j early has forced (step * j.width + p)

-- The forces of values, of which the row has what drivers give.
abbrev pub AreForcesTo : Job → (ℕ → Value) → ℕ → List Value → List Event → Type 0
AreForcesTo j values n row events = IsMade j X (given_of j values) (forcing j values) n row events

-- The same of what is made so far.
abbrev pub HasForcesTo : Job → (ℕ → Value) → ℕ → MadeForces → Type 0
HasForcesTo j values n made = AreForcesTo j values n made.row.items made.events.items

-- Each place of a step is due, or its driver gives what it gave one step before and it is forced as there.
abbrev pub GivenUnlessDue : Job → (ℕ → Value) → ℕ → List ℕ → Type 0
GivenUnlessDue j values step due = RestUnlessDue j X (given_of j values) (forcing j values) step due

-- The changes by statements, of which the row has to what nets are forced.
abbrev pub AreChangesTo : Job → List Event → ℕ → List (Option Value) → List Event → Type 0
AreChangesTo j statements n row events = IsMade j None (forced_by j statements) (forced_by j statements) n row events

abbrev pub StatedUnlessDue : Job → List Event → ℕ → List ℕ → Type 0
StatedUnlessDue j statements step due = RestUnlessDue j None (forced_by j statements) (forced_by j statements) step due

-- Each place of a step whose net no statement names, from one on, up to another, rests.
abbrev pub RestButFor : Job → List Event → ℕ → ℕ → ℕ → Type 0
RestButFor j statements from to step = (p : ℕ) → p < j.width → NoEventOf statements from to (slice_index j.order p)
    → forced_by j statements (step * j.width + p) ≡ forced_before j (forced_by j statements) (step * j.width + p)

-- The changes of the first n places are made, and no position is due.
pub record HasChangesTo (j : Job) (statements : List Event) (n : ℕ) (going : Changes) : Type 0 where
  pub made : AreChangesTo j statements n going.row.items going.events.items
  pub room : HasRoomFor going.due j.width
  pub none : (position : ℕ) → is_due going.due position ≡ false

-- the event of the place where a spot stands
abbrev pub event_at : Spot → Option Value → Event
event_at spot force = record { step = spot.step; net = spot.net; value = force }
