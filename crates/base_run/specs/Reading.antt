-- The files that the phases of a command read, and what they find.
use Rattle.std.specs.Prelude.{◌⊎◌, ◌≤◌, ℕ, List, Contains, Ok}
use Rattle.std.specs.List.{AllByRecursion}
use Rattle.base_run.specs.Phases.{Phases}

-- Each file that is read is one of these.
abbrev pub ReadsAmong : {A C : Type 0} → List (List ℕ) → Phases A C → Type 0
ReadsAmong inputs (Phases.Finds found) = Unit {0}
ReadsAmong inputs (Phases.Reads names limit long next) =
    AllByRecursion (Contains inputs) names × ((text : List ℕ) → ReadsAmong inputs (next text))
ReadsAmong inputs (Phases.Judges {B} comes cause next) = (found : B) → ReadsAmong inputs (next found)
ReadsAmong inputs (Phases.Searches {B} comes cause next) = (found : B) → ReadsAmong inputs (next found)

-- Nothing is found before the file of this name is read, which may have so many bytes at most.
abbrev pub ReadsSurely : {A C : Type 0} → List ℕ → ℕ → Phases A C → Type 0
ReadsSurely name most (Phases.Finds found) = ⊥
ReadsSurely name most (Phases.Reads names limit long next) =
    (Contains names name × (limit ≤ most)) ⊎ ((text : List ℕ) → ReadsSurely name most (next text))
ReadsSurely name most (Phases.Judges {B} comes cause next) = (found : B) → ReadsSurely name most (next found)
ReadsSurely name most (Phases.Searches {B} comes cause next) = (found : B) → ReadsSurely name most (next found)

-- Whatever is found is so.
abbrev pub FindsOnly : {A C : Type 0} → (A → Type 0) → Phases A C → Type 0
FindsOnly Is (Phases.Finds found) = Is found
FindsOnly Is (Phases.Reads names limit long next) = (text : List ℕ) → FindsOnly Is (next text)
FindsOnly Is (Phases.Judges {B} comes cause next) = (found : B) → comes (Ok found) → FindsOnly Is (next found)
FindsOnly Is (Phases.Searches {B} comes cause next) = (found : B) → comes (Ok found) → FindsOnly Is (next found)
