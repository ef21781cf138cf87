-- Numbers and literals by their words.
use Rattle.std.specs.Prelude.{ℕ, ℤ, pos, neg_ℤ, ◌==◌, List, [], ◌∷◌, length, Bool, cond, ◌||◌, ◌&&◌, not, Option, Some}
use Rattle.std.specs.Prelude.{None, option_map, slice_index}
use Rattle.base_scan.specs.Bytes.{are_digits}
use Rattle.base_scan.specs.Numbers.{at_most, number_from}

-- A numeral is one or more digits, and begins with 0 only where that is all.
abbrev pub is_numeral : List ℕ → Bool
is_numeral t = are_digits t && (not (slice_index t 0 == 48) || (length t == 1))

-- The number that a word writes, where it is a numeral and at most the limit.
unfoldable pub numeral_within : ℕ → List ℕ → Option ℕ
numeral_within limit t = cond (is_numeral t) (at_most limit (number_from 0 t)) None

-- A literal is a number up to 2^31 - 1, or `-` and one that isn't 0.
abbrev pub variable_of_word : List ℕ → Option ℕ
variable_of_word t = numeral_within 2147483647 t

abbrev pub negated : Option ℕ → Option ℤ
negated None = None
negated (Some n) = cond (n == 0) None (Some (neg_ℤ (pos n)))

unfoldable pub literal_of_word : List ℕ → Option ℤ
literal_of_word [] = None
literal_of_word (b ∷ bs) =
    cond (b == 45) (negated (variable_of_word bs)) (option_map (λ n. pos n) (variable_of_word (b ∷ bs)))
