-- Assignments by number: bit i of the number is the bit of place i of a list.
use Rattle.std.specs.Prelude.{ℕ, ◌+◌, ◌*◌, cond, ◌%◌, ◌/◌, ◌==◌, Bool, false, List, [], ◌∷◌, if◌then◌else◌}

-- The bits of a number for some places, the lowest first.
abbrev pub masked : List ℕ → ℕ → ℕ → Bool
masked [] mask place = false
masked (first ∷ places) mask place = if place == first then mask % 2 == 1 else masked places (mask / 2) place

-- The number whose bits are those of some places.
abbrev pub mask_of : List ℕ → (ℕ → Bool) → ℕ
mask_of [] bits = 0
mask_of (first ∷ places) bits = cond (bits first) 1 0 + 2 * mask_of places bits
