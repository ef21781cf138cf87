-- Numbers of the grammar (IEEE 1364-2005, clause 3.5).
use Rattle.std.specs.Prelude.{ℕ, ◌^◌, List, [], ◌∷◌, Bool, false, ◌==◌, ◌&&◌, ◌||◌, nat_le, nat_lt, not, length, drop}
use Rattle.std.specs.Prelude.{filter, take_while, if◌then◌else◌, Option, Some, None}
use Rattle.std.specs.List.{list_all}
use Rattle.std.specs.Str.{bytes_eq}
use lib.Chars.{codes}
use Rattle.design_cell.specs.declared.value.Value.{Value}
use Rattle.design_cell.specs.declared.value.Value.TheVariants.{Zero, One, X}
use Rattle.netlist_grammar.specs.Bytes.{is_digit, is_digit_of, number_from, are_digits}

-- An int is digits, at most 2^31 - 1.
unfoldable pub int_of : List ℕ → Option ℕ
int_of text =
    if are_digits text && nat_lt (number_from 10 0 text) 2147483648 then Some (number_from 10 0 text) else None

-- A bit is one of five spellings.
unfoldable pub bit_of : List ℕ → Option Value
bit_of text =
    if bytes_eq text (codes "1'b0") || bytes_eq text (codes "0") then Some Zero
    else if bytes_eq text (codes "1'b1") || bytes_eq text (codes "1") then Some One
    else if bytes_eq text (codes "1'bx") then Some X
    else None

-- The base of a literal, by its letter.
abbrev pub base_of : ℕ → Option ℕ
base_of b =
    if (b == 98) || (b == 66) then Some 2
    else if (b == 111) || (b == 79) then Some 8
    else if (b == 100) || (b == 68) then Some 10
    else if (b == 104) || (b == 72) then Some 16
    else None

-- the first byte is so
abbrev pub begins : (ℕ → Bool) → List ℕ → Bool
begins is [] = false
begins is (b ∷ bs) = is b

-- the last byte is so
abbrev pub ends : (ℕ → Bool) → List ℕ → Bool
ends is [] = false
ends is (b ∷ []) = is b
ends is (b ∷ c ∷ cs) = ends is (c ∷ cs)

-- Digits of the base with `_` between: it begins and ends with a digit, and each byte is a digit or `_`.
unfoldable pub are_spaced_digits : ℕ → List ℕ → Bool
are_spaced_digits base text =
    begins (is_digit_of base) text && ends (is_digit_of base) text
    && list_all (λ b. is_digit_of base b || (b == 95)) text

-- their number
abbrev pub spaced_number : ℕ → List ℕ → ℕ
spaced_number base text = number_from base 0 (filter (λ b. not (b == 95)) text)

-- a literal of a given number of bits, by its base and its digits, where its value fits
abbrev pub literal_in : ℕ → List ℕ → Option ℕ → Option (ℕ × ℕ)
literal_in size digits None = None
literal_in size digits (Some base) =
    if are_spaced_digits base digits && nat_lt (spaced_number base digits) (2 ^ size) then Some
    (size, spaced_number base digits) else None

-- a literal by its size, and what stands after the size
abbrev pub literal_behind : List ℕ → List ℕ → Option (ℕ × ℕ)
literal_behind size [] = None
literal_behind size (q ∷ []) = None
literal_behind size (q ∷ b ∷ digits) =
    if are_digits size && (q == 39) && nat_le 1 (number_from 10 0 size) && nat_le (number_from 10 0 size) 128
    then literal_in (number_from 10 0 size) digits (base_of b) else None

-- A literal is a size of 1 to 128, `'`, the letter of a base, and digits of that base with `_` between, whose value
-- fits. It has its size and its value.
unfoldable pub literal_of : List ℕ → Option (ℕ × ℕ)
literal_of text = literal_behind (take_while is_digit text) (drop (length (take_while is_digit text)) text)
