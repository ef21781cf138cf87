-- The bits of a declared range, from its left index to its right one (IEEE 1364-2005, clause 4.3).
use Rattle.std.specs.Prelude.{ℕ, zero, suc, ◌+◌, ◌-◌, Bool, ◌&&◌, ◌||◌, nat_le, Option, Some, None, List, [], ◌∷◌, ◌++◌}
use Rattle.std.specs.Prelude.{if◌then◌else◌}

-- f 0, f 1 and so on, n of them
abbrev pub upto : {A : Type 0} → (ℕ → A) → ℕ → List A
upto f zero = []
upto f (suc n) = upto f n ++ f n ∷ []

-- how far an index is from the left one
abbrev pub offset : ℕ × ℕ → ℕ → ℕ
offset range index = if nat_le index range.0 then range.0 - index else index - range.0

abbrev pub within : ℕ × ℕ → ℕ → Bool
within range index = nat_le range.0 index && nat_le index range.1 || nat_le range.1 index && nat_le index range.0

-- A name without a range has one bit.
abbrev pub width_of : Option (ℕ × ℕ) → ℕ
width_of None = 1
width_of (Some range) = offset range range.1 + 1

-- the index of a bit, counted from the left
abbrev pub bit_at : Option (ℕ × ℕ) → ℕ → Option ℕ
bit_at None bit = None
bit_at (Some range) bit = Some (if nat_le range.0 range.1 then range.0 + bit else range.0 - bit)
