-- The pool: the names that the pins of gates and registers are drawn from.
use Rattle.std.specs.Prelude.{ℕ, zero, suc, ◌-◌, List, [], ◌∷◌, ◌++◌, codes, decimal, length, nat_lt, slice_index_or}
use Rattle.std.specs.Prelude.{if◌then◌else◌}
use Rattle.cmd_make.specs.Draw.{draw}

abbrev pub input_name : ℕ → List ℕ
input_name number = codes "i" ++ decimal number

-- what a register drives
abbrev pub output_name : ℕ → List ℕ
output_name number = codes "q" ++ decimal number

abbrev pub gate_name : ℕ → List ℕ
gate_name number = codes "g" ++ decimal number

-- At first the pool is i0 to i7 and q0 to q3.
unfoldable pub first_pool : List (List ℕ)
first_pool =
    input_name 0 ∷ input_name 1 ∷ input_name 2 ∷ input_name 3
    ∷ input_name 4 ∷ input_name 5 ∷ input_name 6 ∷ input_name 7
    ∷ output_name 0 ∷ output_name 1 ∷ output_name 2 ∷ output_name 3 ∷ []

-- The pool of so many gates: each joins it when it is made.
unfoldable pub pool_of : ℕ → List (List ℕ)
pool_of zero = first_pool
pool_of (suc gate) = pool_of gate ++ gate_name gate ∷ []

-- A member of a pool, drawn below the pool's length.
unfoldable pub drawn_member : List (List ℕ) → ℕ → List ℕ
drawn_member pool state = slice_index_or pool (draw (length pool) state) []

-- The member of a number in every pool that has so many.
unfoldable pub member_name : ℕ → List ℕ
member_name number =
    if nat_lt number 8 then input_name number
    else if nat_lt number 12 then output_name (number - 8)
    else gate_name (number - 12)
