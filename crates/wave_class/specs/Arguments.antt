-- Argument places: those of a register, those that aren't certain, and the least of some.
use Rattle.std.specs.Prelude.{◌≡◌, ℕ, ◌-◌, ◌<◌, ◌≤◌, ◌&&◌, Bool, true, false, Option, None, Some, List, [], ◌∷◌, ◌++◌}
use Rattle.design_cell.specs.declared.value.Value.{Value}
use Rattle.design_cell.specs.Value.{is_unknown}
use Rattle.design_circuit.specs.declared.design.Latching.{Latching}
use Rattle.design_circuit.specs.Job.{Job, at}
use Rattle.design_circuit.specs.Rule.{arguments, old_places, places_at}
use Rattle.law_model.specs.Places.{among, places_where}

-- Where a register looks: at its pins two steps back and one step back, and at its own net.
abbrev pub looked_places : Job → ℕ → ℕ → Latching → List ℕ
looked_places j step net latching =
    old_places j step latching.pins ++ (places_at j (step - 1) latching.pins ++ at j (step - 1) net ∷ [])

-- The argument places of a place that aren't certain, in place order and without doubles.
abbrev pub is_uncertain : Job → (ℕ → Value) → ℕ → ℕ → Bool
is_uncertain j certain place k = among (arguments j certain place) k && is_unknown (certain k)

abbrev pub uncertain_places : Job → (ℕ → Value) → ℕ → List ℕ
uncertain_places j certain place = places_where (is_uncertain j certain place) place

-- The least of some places that isn't below a bound, or none.
pub record IsLeast (places : List ℕ) (bound least : ℕ) : Type 0 where
  pub inside : among places least ≡ true
  pub above : bound ≤ least
  pub none_before : (k : ℕ) → bound ≤ k → k < least → among places k ≡ false

abbrev pub IsLeastFrom : List ℕ → ℕ → Option ℕ → Type 0
IsLeastFrom places bound None = (k : ℕ) → bound ≤ k → among places k ≡ false
IsLeastFrom places bound (Some least) = IsLeast places bound least

-- What is the least of some places is the second once there is one more place.
abbrev pub IsLeastWith : ℕ → ℕ → Option ℕ → Option ℕ → Type 0
IsLeastWith place bound found least =
    (places : List ℕ) → IsLeastFrom places bound found → IsLeastFrom (places ++ place ∷ []) bound least
