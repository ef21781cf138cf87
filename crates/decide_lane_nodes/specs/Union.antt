-- Unions of lists of places that ascend.
use Rattle.std.specs.Prelude.{◌≡◌, ℕ, ◌==◌, ◌||◌, List, [], ◌∷◌, Option, None, Some, if◌then◌else◌, nat_lt}
use Rattle.std.specs.List.Sorted.{IsStrictlyIncreasing}
use Rattle.law_model.specs.Places.{among}

-- The places of two lists, in place order.
pub record IsUnion (some others all : List ℕ) : Type 0 where
  pub rises : IsStrictlyIncreasing all
  pub are : (k : ℕ) → among all k ≡ among some k || among others k

-- The first of some places, and the least of the first of two lists.
abbrev pub first : List ℕ → Option ℕ
first [] = None
first (place ∷ places) = Some place

abbrev pub lower : ℕ → List ℕ → ℕ
lower place [] = place
lower place (other ∷ places) = if nat_lt other place then other else place

abbrev pub least : List ℕ → List ℕ → Option ℕ
least [] right = first right
least (x ∷ xs) right = Some (lower x right)

-- Places without a place that may be the first of them.
abbrev pub after : List ℕ → ℕ → List ℕ
after [] place = []
after (first ∷ places) place = if first == place then places else first ∷ places
