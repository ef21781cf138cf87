-- What becomes due.
use Rattle.std.specs.Prelude.{◌≡◌, ℕ, ◌-◌, ◌/◌, ◌<◌, true, false, List}
use Rattle.design_circuit.specs.Job.{Job}
use Rattle.design_circuit.specs.Order.{position_of}
use Rattle.base_ledger.specs.Change.{change_position, nth_change}
use Rattle.base_ledger.specs.declared.change.Change.{Change}
use Rattle.replay_due.specs.Due.{is_due}

-- What was due still is.
abbrev pub OnlyMore : List ℕ → List ℕ → Type 0
OnlyMore old new = (position : ℕ) → is_due old position ≡ true → is_due new position ≡ true

-- The nets of the first changes are due.
abbrev pub AreChangesDue : Job → ℕ → List Change → List ℕ → Type 0
AreChangesDue j n changes due =
    (i : ℕ) → i < n → is_due due (position_of j.order (change_position (nth_change changes i))) ≡ true

-- Each net is due, or recorded as one step before.
abbrev pub AreInputsDue : Job → ℕ → List ℕ → Type 0
AreInputsDue j step due = (net : ℕ) → net < j.width → is_due due (position_of j.order net) ≡ false
    → j.recorded (step / j.rounds) net ≡ j.recorded ((step - 1) / j.rounds) net
