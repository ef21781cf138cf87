-- The events of statements, in the order in which these stand.
use Rattle.std.specs.Prelude.{◌≡◌, ℕ, ◌<◌, ◌==◌, Option, None, List, [], ◌∷◌, length, slice_index_or, if◌then◌else◌}
use Rattle.design_cell.specs.declared.value.Value.{Value}
use Rattle.design_circuit.specs.declared.force.Event.{Event}

-- The events so far, of so many nets.
pub record Statements : Type 0 where
  pub nets : ℕ
  pub events : List Event

-- To what a net is forced now: the value of its last event so far.
abbrev pub taken : Event → ℕ → Option Value → Option Value
taken event net was = if event.net == net then event.value else was

abbrev pub forced_from : Option Value → List Event → ℕ → Option Value
forced_from was [] net = was
forced_from was (event ∷ events) net = forced_from (taken event net was) events net

abbrev pub forced_now : List Event → ℕ → Option Value
forced_now events net = forced_from None events net

-- A table has for each net to what it is forced now.
abbrev pub IsForcedTable : List (Option Value) → List Event → Type 0
IsForcedTable forced events = (net : ℕ) → net < length forced → slice_index_or forced net None ≡ forced_now events net
