-- How far the walk round a loop has come. No contract of a public call names it.
use Rattle.std.specs.Prelude.{◌≡◌, ℕ, ◌+◌, ◌<◌, ◌++◌, Bool, true, false, Option, Some, None, List, [], ◌∷◌, length}
use Rattle.std.specs.Prelude.{slice_index, slice_index_or}
use Rattle.design_circuit.specs.Order.{arguments_of_driver}
use Rattle.design_circuit.specs.declared.design.Driver.{Driver}
use Rattle.design_order.specs.Progress.{flag_at, first_open, IsLeastOpen}

-- a net that has no place yet
abbrev pub is_free : Option ℕ → Bool
is_free None = true
is_free (Some place) = false

abbrev pub place_of : List (Option ℕ) → ℕ → Option ℕ
place_of places net = slice_index_or places net None

-- The walk so far, the net that it has come to, and for each net its place in the walk.
pub record IsWalking (driver : ℕ → Driver) (flags : List Bool) (walk : List ℕ) (net : ℕ)
    (places : List (Option ℕ)) : Type 0 where
  pub long : length places ≡ length flags
  pub within : net < length flags
  pub open_ : flag_at flags net ≡ false
  pub start : IsLeastOpen flags (slice_index (walk ++ net ∷ []) 0)
  pub step : (p : ℕ) → p < length walk → first_open flags (arguments_of_driver (driver (slice_index walk p)))
      ≡ Some (slice_index (walk ++ net ∷ []) (p + 1))
  pub at : (other place : ℕ) → place_of places other ≡ Some place → (place < length walk)
      × (slice_index walk place ≡ other)
  pub met : (p : ℕ) → p < length walk → place_of places (slice_index walk p) ≡ Some p
