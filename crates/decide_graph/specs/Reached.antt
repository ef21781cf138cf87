-- Sets of places by number, each as a list of its places, in which one may stand more than once.
use Rattle.std.specs.Prelude.{◌≡◌, ℕ, ◌<◌, ◌≤◌, ◌==◌, ◌||◌, Option, None, Some, List, [], ◌∷◌, IfSome, length}
use Rattle.std.specs.List.{AllByRecursion}
use Rattle.law_model.specs.Places.{among}

-- A place comes in.
abbrev pub Adds : List ℕ → ℕ → List ℕ → Type 0
Adds old place new = (k : ℕ) → among new k ≡ (place == k) || among old k

-- Some places come in.
abbrev pub AddsAll : List ℕ → List ℕ → List ℕ → Type 0
AddsAll old places new = (k : ℕ) → among new k ≡ among places k || among old k

-- The greatest place is taken out, if there is one.
pub record TakesGreatest (old : List ℕ) (place : ℕ) (new : List ℕ) : Type 0 where
  pub parts : Adds new place old
  pub below : AllByRecursion (λ k. k < place) new
  pub fewer : length new < length old

abbrev pub Takes : List ℕ → Option ℕ → List ℕ → Type 0
Takes old None new = old ≡ []
Takes old (Some place) new = TakesGreatest old place new

-- Places that fall, the greatest first.
abbrev pub IsFalling : List ℕ → Type 0
IsFalling [] = Unit {0}
IsFalling (p ∷ ps) = AllByRecursion (λ k. k < p) ps × IsFalling ps

-- Some places, each once, the greatest first.
pub record AreTaken (all taken : List ℕ) : Type 0 where
  pub falls : IsFalling taken
  pub same : (k : ℕ) → among taken k ≡ among all k

-- A place, if there is one, before others.
abbrev pub listed : Option ℕ → List ℕ → List ℕ
listed None places = places
listed (Some place) places = place ∷ places

-- None of the others is over it, and without it there are none.
abbrev pub AreBelow : Option ℕ → List ℕ → Type 0
AreBelow None places = places ≡ []
AreBelow (Some place) places = AllByRecursion (λ k. k ≤ place) places

-- A place comes to the greatest and the others.
pub record Joins (greatest : ℕ) (old : List ℕ) (place now : ℕ) (new : List ℕ) : Type 0 where
  pub adds : Adds (greatest ∷ old) place (now ∷ new)
  pub below : AllByRecursion (λ k. k ≤ now) new

-- What isn't below a bound is taken out, and the greatest of the others, if there is one.
pub record PopsBelow (bound : ℕ) (old : List ℕ) (found : Option ℕ) (new : List ℕ) : Type 0 where
  pub parts : (k : ℕ) → (bound == k) || among old k ≡ (bound == k) || among (listed found new) k
  pub others : AreBelow found new
  pub below : IfSome found (λ place. place < bound)
  pub fewer : length (listed found new) ≤ length old
