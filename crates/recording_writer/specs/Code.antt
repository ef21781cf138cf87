-- Codes of variables: numbers in base 94 (IEEE 1364-2005, clause 18: a code is printable bytes).
use Rattle.std.specs.Prelude.{ℕ, zero, suc, ◌+◌, ◌/◌, ◌%◌, List, [], ◌∷◌, nat_lt, if◌then◌else◌}

-- The lowest digits of a number in base 94, least digit first, digit d as byte 33 + d, without leading zeros.
unfoldable pub digits_of : ℕ → ℕ → List ℕ
digits_of zero number = []
digits_of (suc most) number = (33 + number % 94) ∷ (if nat_lt number 94 then [] else digits_of most (number / 94))

-- The code of a variable: all digits of its number, since 94^10 is more than 2^64.
unfoldable pub code_of : ℕ → List ℕ
code_of variable = digits_of 10 variable
