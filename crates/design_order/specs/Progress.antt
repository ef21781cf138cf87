-- How far the listing of the nets has come. No contract of a public call names it.
use Rattle.std.specs.Prelude.{◌≡◌, ℕ, ◌<◌, ◌&&◌, Bool, true, false, Option, List, [], ◌∷◌, length, find, not}
use Rattle.std.specs.Prelude.{slice_index_or, Contains, is_some, ◌⊎◌}
use Rattle.std.specs.List.{count_by}
use Rattle.design_circuit.specs.Order.{arguments_of_driver}
use Rattle.design_circuit.specs.declared.design.Driver.{Driver}
use Rattle.design_circuit.specs.declared.design.Pin.{Pin}
use Rattle.design_circuit.specs.declared.design.Pin.TheVariants.{Net, Bit, Dead}
use Rattle.design_order.specs.Loop.{IsListing}

-- the net of a pin
abbrev pub open_pin : Pin → List ℕ
open_pin (Net net) = net ∷ []
open_pin (Bit bit) = []
open_pin Dead = []

-- Each net has a flag, which says whether it is listed.
abbrev pub flag_at : List Bool → ℕ → Bool
flag_at flags net = slice_index_or flags net false

-- the first of some nets without a flag
abbrev pub first_open : List Bool → List ℕ → Option ℕ
first_open flags nets = find (λ net. not (flag_at flags net)) nets

-- A net can come next where it isn't listed and its arguments all are.
unfoldable pub can_come : (ℕ → Driver) → List Bool → ℕ → Bool
can_come driver flags net =
    not (flag_at flags net) && not (is_some (first_open flags (arguments_of_driver (driver net))))

-- the nets listed so far, and their flags
pub record IsListed (driver : ℕ → Driver) (width : ℕ) (listed : List ℕ) (flags : List Bool) : Type 0 where
  pub long : length flags ≡ width
  pub listing : IsListing driver width listed
  pub flagged : (net : ℕ) → flag_at flags net ≡ true → Contains listed net
  pub marked : (net : ℕ) → Contains listed net → flag_at flags net ≡ true
  pub count : count_by (λ flag. flag) flags ≡ length listed

-- a set of nets that can come next
abbrev pub IsSound : (ℕ → Driver) → ℕ → List Bool → (ℕ → Bool) → Type 0
IsSound driver width flags ready = (net : ℕ) → ready net ≡ true → (net < width) × (can_come driver flags net ≡ true)

-- it has all of them
abbrev pub IsComplete : (ℕ → Driver) → ℕ → List Bool → (ℕ → Bool) → Type 0
IsComplete driver width flags ready = (net : ℕ) → net < width → can_come driver flags net ≡ true → ready net ≡ true

-- between two steps the set has exactly the nets that can come next
pub record IsProgress (driver : ℕ → Driver) (width : ℕ) (listed : List ℕ) (flags : List Bool)
    (ready : ℕ → Bool) : Type 0 where
  pub listed_ : IsListed driver width listed flags
  pub sound : IsSound driver width flags ready
  pub complete : IsComplete driver width flags ready

-- A net has joined the set where it can come, and all else is as before.
pub record Offers (can_come ready now : ℕ → Bool) (net : ℕ) : Type 0 where
  pub joined : can_come net ≡ true → now net ≡ true
  pub kept : (other : ℕ) → ready other ≡ true → now other ≡ true
  pub only : (other : ℕ) → now other ≡ true → ready other ≡ true ⊎ (other ≡ net) × (can_come net ≡ true)

-- the least net without a flag
pub record IsLeastOpen (flags : List Bool) (net : ℕ) : Type 0 where
  pub within : net < length flags
  pub here : flag_at flags net ≡ false
  pub below : (other : ℕ) → other < net → flag_at flags other ≡ true
