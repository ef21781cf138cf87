-- Kinds of bytes, and numbers by their digits.
use Rattle.std.specs.Prelude.{ℕ, ◌+◌, ◌-◌, ◌*◌, List, [], ◌∷◌, Bool, false, ◌&&◌, nat_le, nat_lt, if◌then◌else◌}
use Rattle.std.specs.List.{list_all}

abbrev pub is_digit : ℕ → Bool
is_digit b = nat_le 48 b && nat_le b 57

-- what a byte is worth as a digit: 0 to 9, a to f, A to F, and 16 for all others
abbrev pub worth : ℕ → ℕ
worth b =
    if is_digit b then b - 48
    else if nat_le 97 b && nat_le b 102 then b - 87
    else if nat_le 65 b && nat_le b 70 then b - 55
    else 16

-- a digit of that base
abbrev pub is_digit_of : ℕ → ℕ → Bool
is_digit_of base b = nat_lt (worth b) base

-- the number that the digits give in a base, after a number that stands before them
abbrev pub number_from : ℕ → ℕ → List ℕ → ℕ
number_from base n [] = n
number_from base n (d ∷ ds) = number_from base (n * base + worth d) ds

-- digits alone, one or more
abbrev pub are_digits : List ℕ → Bool
are_digits [] = false
are_digits (d ∷ ds) = list_all is_digit (d ∷ ds)
