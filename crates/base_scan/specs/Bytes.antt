-- Kinds of bytes.
use Rattle.std.specs.Prelude.{ℕ, List, length, Bool, ◌==◌, ◌||◌, ◌&&◌, nat_le, nat_lt}
use Rattle.std.specs.List.{list_all}

-- White space is space, tab, newline, carriage return and form feed.
abbrev pub is_white : ℕ → Bool
is_white b = (b == 32) || (b == 9) || (b == 10) || (b == 13) || (b == 12)

abbrev pub is_digit : ℕ → Bool
is_digit b = nat_le 48 b && nat_le b 57

-- digits alone
abbrev pub all_digits : List ℕ → Bool
all_digits word = list_all is_digit word

-- one or more digits
abbrev pub are_digits : List ℕ → Bool
are_digits word = nat_lt 0 (length word) && all_digits word
