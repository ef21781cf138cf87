-- What a report says of a case.
use Rattle.std.specs.Prelude.{ℕ, ◌+◌, ◌-◌, ◌^◌, min, Bool, if◌then◌else◌}

-- The count of cases that came as wanted, at the end of one that differs or doesn't.
abbrev pub ended : Bool → ℕ → ℕ
ended differs agreed = if differs then agreed else min (agreed + 1) (2 ^ 64 - 1)

-- The number of a line, counted from 1, of a text that begins on this line.
abbrev pub place_of : ℕ → ℕ → ℕ
place_of first number = min (first + (number - 1)) (2 ^ 64 - 1)
