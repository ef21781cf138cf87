-- Tests of a word's bytes: codes, ranges, timescales.
use Rattle.std.specs.Prelude.{ℕ, ◌+◌, ◌-◌, List, [], ◌∷◌, length, take, drop, Bool, cond, ◌==◌, ◌||◌, ◌&&◌, nat_le}
use Rattle.std.specs.Prelude.{nat_lt, Option, Some, None, option_map, position, bytes_eq, codes, slice_index}
use Rattle.std.specs.Prelude.{slice_range}
use Rattle.std.specs.List.{list_all}
use Rattle.base_scan.specs.Numbers.{number_within}

abbrev pub is_end : List ℕ → Bool
is_end t = bytes_eq t (codes "$end")

-- A code is one or more bytes 33 to 126.
abbrev pub is_code_byte : ℕ → Bool
is_code_byte b = nat_le 33 b && nat_le b 126

abbrev pub is_code : List ℕ → Bool
is_code t = nat_lt 0 (length t) && list_all is_code_byte t

-- `0 1 x X z Z`
abbrev pub is_value : ℕ → Bool
is_value b = (b == 48) || (b == 49) || (b == 120) || (b == 88) || (b == 122) || (b == 90)

abbrev pub are_values : List ℕ → Bool
are_values t = nat_lt 0 (length t) && list_all is_value t

-- An index is at most 2^31 - 1, and a time at most 2^64 - 1.
abbrev pub index_of : List ℕ → Option ℕ
index_of t = number_within 2147483647 t

abbrev pub time_of : List ℕ → Option ℕ
time_of t = number_within 18446744073709551615 t

abbrev pub both_of : Option ℕ → Option ℕ → Option (ℕ × ℕ)
both_of (Some m) (Some l) = Some (m, l)
both_of _ _ = None

-- What stands between the brackets of a range: `i` is from i to i, `m:l` from m to l.
abbrev pub bounds_at : Option ℕ → List ℕ → Option (ℕ × ℕ)
bounds_at None t = option_map (λ i. (i, i)) (index_of t)
bounds_at (Some colon) t = both_of (index_of (take colon t)) (index_of (drop (colon + 1) t))

abbrev pub bounds_of : List ℕ → Option (ℕ × ℕ)
bounds_of t = bounds_at (position (λ b. b == 58) t) t

-- A range is `[i]` or `[m:l]`.
abbrev pub is_bracketed : List ℕ → Bool
is_bracketed t = nat_le 2 (length t) && (slice_index t 0 == 91) && (slice_index t (length t - 1) == 93)

abbrev pub range_of : List ℕ → Option (ℕ × ℕ)
range_of t = cond (is_bracketed t) (bounds_of (slice_range t 1 (length t - 1))) None

-- the place of the last `[` of these bytes, the first of which is at place n; where there is none, what was found
-- before
abbrev pub bracket_from : ℕ → ℕ → List ℕ → ℕ
bracket_from found n [] = found
bracket_from found n (b ∷ bs) = bracket_from (cond (b == 91) n found) (n + 1) bs

abbrev pub last_bracket : List ℕ → ℕ
last_bracket t = bracket_from 0 0 t

-- the text without a range directly after it
abbrev pub without_range : Bool → List ℕ → List ℕ
without_range direct t = cond direct (take (last_bracket t) t) t

abbrev pub is_power : List ℕ → Bool
is_power t = bytes_eq t (codes "1") || bytes_eq t (codes "10") || bytes_eq t (codes "100")

abbrev pub is_unit : List ℕ → Bool
is_unit t = bytes_eq t (codes "s") || bytes_eq t (codes "ms") || bytes_eq t (codes "us") || bytes_eq t (codes "ns")
    || bytes_eq t (codes "ps") || bytes_eq t (codes "fs")

abbrev pub is_cut_scale : List ℕ → ℕ → Bool
is_cut_scale t k = is_power (take k t) && is_unit (drop k t)

-- 1, 10 or 100 and a unit, joined
abbrev pub is_scale : List ℕ → Bool
is_scale t = is_cut_scale t 1 || is_cut_scale t 2 || is_cut_scale t 3

-- variables of these kinds are skipped with their changes
abbrev pub is_skipped : List ℕ → Bool
is_skipped t = bytes_eq t (codes "real") || bytes_eq t (codes "realtime") || bytes_eq t (codes "event")

-- the bytes after the first, and the first
abbrev pub rest_of : List ℕ → List ℕ
rest_of [] = []
rest_of (b ∷ bs) = bs

abbrev pub front_of : List ℕ → List ℕ
front_of [] = []
front_of (b ∷ bs) = b ∷ []
