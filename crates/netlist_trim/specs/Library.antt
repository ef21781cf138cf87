-- Names with the number of the first definition of each.
use Rattle.std.specs.Prelude.{◌≡◌, ℕ, List, [], ◌∷◌, ◌++◌, map, bytes_eq, is_some, if◌then◌else◌}
use Rattle.std.specs.Borrow.{Bor}
use Rattle.std.specs.Map.{lookup}
use Rattle.netlist_trim.specs.Definition.{Defined}
use Rattle.netlist_trim.specs.Needed.{first_named}

-- What a map of names has.
abbrev pub numbers_in : List (Bor (List ℕ) × ℕ) → List (List ℕ × ℕ)
numbers_in entries = map (λ (e : Bor (List ℕ) × ℕ). (e.0.now, e.1)) entries

-- A name more. One that is there keeps its number.
abbrev pub with_number : List ℕ → ℕ → List (List ℕ × ℕ) → List (List ℕ × ℕ)
with_number name k numbers = if is_some (lookup (bytes_eq name) numbers) then numbers else numbers ++ (name, k) ∷ []

-- Each name has the number of its first definition, if any.
pub record Finds (numbers : List (List ℕ × ℕ)) (ds : List Defined) : Type 0 where
  pub same : (name : List ℕ) → lookup (bytes_eq name) numbers ≡ first_named ds name
