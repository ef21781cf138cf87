-- A filling up to a place, and another from a place on.
use Rattle.std.specs.Prelude.{◌≡◌, ℕ, Bool, false, List, nat_lt, not, if◌then◌else◌}
use Rattle.design_circuit.specs.declared.place.Place.{Place}
use Rattle.design_circuit.specs.Filling.{IsFilling, bit_of}
use Rattle.design_circuit.specs.Job.{Job, number_of}

-- A place stands below a number, or from it on.
abbrev pub stands_below : Job → ℕ → Place → Bool
stands_below j below place = nat_lt (number_of j place) below

abbrev pub stands_from : Job → ℕ → Place → Bool
stands_from j from place = not (nat_lt (number_of j place) from)

-- The bits of one filling below a number, 0 up to another number, and the bits of a second filling from there on.
abbrev pub joined_bit : Job → List Place → ℕ → List Place → ℕ → ℕ → Bool
joined_bit j one below zero from k =
    if nat_lt k below then bit_of j one k else if nat_lt k from then false else bit_of j zero k

-- A filling that has these bits.
pub record IsJoined (j : Job) (one : List Place) (below : ℕ) (zero : List Place) (from : ℕ)
    (filling : List Place) : Type 0 where
  pub is_filling : IsFilling j filling
  pub bits : (k : ℕ) → bit_of j filling k ≡ joined_bit j one below zero from k
