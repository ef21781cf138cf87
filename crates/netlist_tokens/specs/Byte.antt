-- Kinds of bytes (IEEE 1364-2005, clause 3).
use Rattle.std.specs.Prelude.{ℕ, Bool, ◌==◌, ◌&&◌, ◌||◌, not, nat_le, List, [], ◌∷◌, false}

abbrev pub newline : ℕ
newline = 10

abbrev pub quote : ℕ
quote = 34

abbrev pub star : ℕ
star = 42

abbrev pub slash : ℕ
slash = 47

abbrev pub backslash : ℕ
backslash = 92

abbrev pub backquote : ℕ
backquote = 96

-- space, tab, newline, carriage return, form feed
abbrev pub is_white : ℕ → Bool
is_white b = (b == 32) || (b == 9) || (b == 10) || (b == 13) || (b == 12)

-- a letter or `_`
abbrev pub is_letter : ℕ → Bool
is_letter b = (nat_le 97 b && nat_le b 122) || (nat_le 65 b && nat_le b 90) || (b == 95)

abbrev pub is_digit : ℕ → Bool
is_digit b = nat_le 48 b && nat_le b 57

-- letters, digits, `_`, `$`
abbrev pub is_name_byte : ℕ → Bool
is_name_byte b = is_letter b || is_digit b || (b == 36)

-- digits, letters, `_`, `'`
abbrev pub is_number_byte : ℕ → Bool
is_number_byte b = is_letter b || is_digit b || (b == 39)

-- 33 to 126
abbrev pub is_printable : ℕ → Bool
is_printable b = nat_le 33 b && nat_le b 126

-- a line ends with byte 10 alone
abbrev pub is_in_line : ℕ → Bool
is_in_line b = not (b == newline)

-- the first byte passes
abbrev pub begins : (ℕ → Bool) → List ℕ → Bool
begins p [] = false
begins p (b ∷ bs) = p b
