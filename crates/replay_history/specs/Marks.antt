-- What is due as a step begins.
use Rattle.std.specs.Prelude.{◌≡◌, ℕ, ◌<◌, ◌≤◌, true, List}
use Rattle.design_circuit.specs.Job.{Job}
use Rattle.design_circuit.specs.Order.{position_of}
use Rattle.design_circuit.specs.declared.force.Event.{Event}
use Rattle.replay_due.specs.Due.{is_due}
use Rattle.replay_history.specs.Forced.{event_at}

-- The positions of the events from one on, up to another, are due.
abbrev pub AreEventsDue : Job → List Event → ℕ → ℕ → List ℕ → Type 0
AreEventsDue j events from to due =
    (i : ℕ) → from ≤ i → i < to → is_due due (position_of j.order (event_at events i).net) ≡ true
