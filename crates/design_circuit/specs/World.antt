-- Worlds: the circuit of zeros and ones, in which only a filling chooses.
use Rattle.std.specs.Prelude.{◌≡◌, ℕ, zero, suc, ◌+◌, ◌<◌, Bool, true, false, List, [], ◌∷◌, ◌++◌, slice_index_or}
use Rattle.design_cell.specs.declared.value.Value.{Value}
use Rattle.design_cell.specs.declared.value.Value.TheVariants.{Zero, One, X, Z}
use Rattle.design_circuit.specs.Job.{Job}
use Rattle.design_circuit.specs.Rule.{rule}

-- The rule's value where it is 0 or 1, else the filling's bit.
abbrev pub decided : Value → Bool → Bool
decided Zero bit = false
decided One bit = true
decided X bit = bit
decided Z bit = bit

-- The bit of a place in a list of bits in place order.
abbrev pub bit_at : List Bool → ℕ → Bool
bit_at bits place = slice_index_or bits place false

-- The world of a filling up to the first n places: each, in place order, has the value of its rule on the world's own
-- bits where that is 0 or 1, and the filling's bit where it is x.
unfoldable pub world : Job → (ℕ → Value) → (ℕ → Bool) → ℕ → List Bool
world j certain filling zero = []
world j certain filling (suc n) =
    world j certain filling n ++ decided (rule j certain (bit_at (world j certain filling n)) n) (filling n) ∷ []

-- The bit of a place in the world of a filling, which depends on the places up to it alone.
abbrev pub world_bit : Job → (ℕ → Value) → (ℕ → Bool) → ℕ → Bool
world_bit j certain filling place = bit_at (world j certain filling (place + 1)) place

-- A function of places is a world of the filling up to the first n where each of these has its rule's value on the
-- function's own bits, and the filling's bit where that is x.
abbrev pub IsWorld : Job → (ℕ → Value) → (ℕ → Bool) → ℕ → (ℕ → Bool) → Type 0
IsWorld j certain filling n w = (place : ℕ) → place < n → w place ≡ decided (rule j certain w place) (filling place)
