-- Lists of places by their numbers.
use Rattle.std.specs.Prelude.{ℕ, zero, suc, ◌==◌, Bool, List, [], ◌∷◌, ◌++◌, if◌then◌else◌}
use Rattle.std.specs.List.{list_any}

-- A place is among some places.
abbrev pub among : List ℕ → ℕ → Bool
among places place = list_any (λ k. k == place) places

-- The places among the first n at which a test holds, in place order.
abbrev pub places_where : (ℕ → Bool) → ℕ → List ℕ
places_where test zero = []
places_where test (suc n) = if test n then places_where test n ++ n ∷ [] else places_where test n
