-- Places that are noted, each at the spot of its number.
use Rattle.std.specs.Prelude.{◌≡◌, ℕ, ◌%◌, ◌⊎◌, true, List, slice_index}
use Rattle.law_model.specs.Places.{among}

-- A place is noted.
abbrev pub IsAt : List ℕ → ℕ → Type 0
IsAt spots place = slice_index spots (place % 64) ≡ place

-- Those that are noted are among some places.
abbrev pub AreNoted : List ℕ → List ℕ → Type 0
AreNoted spots places = (k : ℕ) → IsAt spots k → among places k ≡ true

-- A place is noted at most, beside those that were.
abbrev pub Notes : List ℕ → ℕ → List ℕ → Type 0
Notes old place new = (k : ℕ) → IsAt new k → (place ≡ k) ⊎ IsAt old k

-- Those that are noted were, and a place isn't.
abbrev pub Forgets : List ℕ → ℕ → List ℕ → Type 0
Forgets old place new = (k : ℕ) → IsAt new k → (place ≡ k → ⊥) × IsAt old k
