-- How codes are stored: short ones in a table, the others in a map.
use Rattle.std.specs.Prelude.{◌≡◌, ℕ, zero, suc, ◌+◌, ◌-◌, ◌*◌, List, [], ◌∷◌, length, Bool, cond, ◌&&◌, nat_le, Option}
use Rattle.std.specs.Prelude.{Some, None, bytes_eq, slice_index}
use Rattle.std.specs.List.{list_all}
use Rattle.std.specs.Map.{lookup}
use Rattle.recording_codes.specs.Code.{Code}
use denote.Ref.{Bor}

-- A short code is one to four bytes 33 to 126, of which the fourth is 33 or 34. So are the first 2^20 codes that
-- simulators give, who count in base 94, the least digit first.
abbrev pub is_slot_byte : ℕ → Bool
is_slot_byte b = nat_le 33 b && nat_le b 126

abbrev pub is_short : List ℕ → Bool
is_short t = nat_le 1 (length t) && nat_le (length t) 4 && nat_le (slice_index t 3 - 32) 2 && list_all is_slot_byte t

-- its place in the table: its bytes are digits in base 95, the least first, and no byte is 0
abbrev pub slot_of : List ℕ → ℕ
slot_of t =
    (slice_index t 0 - 32) + 95 * ((slice_index t 1 - 32) + 95 * ((slice_index t 2 - 32) + 95 * (slice_index t 3 - 32)))

-- a slot has the number of its code and one more, or 0
abbrev pub slot_number : ℕ → Option ℕ
slot_number zero = None
slot_number (suc n) = Some n

-- the number of a code, by the table and the map
abbrev pub stored_number : List ℕ → List (Bor (List ℕ) × ℕ) → List ℕ → Option ℕ
stored_number slots others t = cond (is_short t) (slot_number (slice_index slots (slot_of t)))
    (lookup (λ (k : Bor (List ℕ)). bytes_eq t k.now) others)

-- the number of a code, where the first of the list has this number
abbrev pub number_from : ℕ → List Code → List ℕ → Option ℕ
number_from n [] t = None
number_from n (c ∷ cs) t = cond (bytes_eq t c.text) (Some n) (number_from (n + 1) cs t)

abbrev pub number_of : List Code → List ℕ → Option ℕ
number_of cs t = number_from 0 cs t

-- The table and the map say of each text what the list says.
abbrev pub Knows : List ℕ → List (Bor (List ℕ) × ℕ) → List Code → Type 0
Knows slots others cs = (t : List ℕ) → stored_number slots others t ≡ number_of cs t
