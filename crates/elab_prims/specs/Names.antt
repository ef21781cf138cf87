-- Lists of names.
use Rattle.std.specs.Prelude.{◌≡◌, ℕ, Bool, true, false, not, Option, Some, None, List, [], ◌∷◌, ◌++◌, map, is_some}
use Rattle.std.specs.Prelude.{bytes_eq, if◌then◌else◌}
use Rattle.std.specs.Borrow.{Bor}
use Rattle.std.specs.List.{list_all}
use Rattle.netlist_grammar.specs.declared.tree.Word.{Word}
use Rattle.elab_names.specs.Sets.{has}

abbrev pub names_of : List Word → List (List ℕ)
names_of words = map (λ (w : Word). w.text) words

-- what borrowed names are
abbrev pub texts : List (Bor (List ℕ)) → List (List ℕ)
texts names = map (λ (n : Bor (List ℕ)). n.now) names

abbrev pub is_nothing : List (List ℕ) → Bool
is_nothing [] = true
is_nothing (name ∷ names) = false

-- The first name that one before it has; these come before all.
abbrev pub first_repeated : List (List ℕ) → List (List ℕ) → Option (List ℕ)
first_repeated seen [] = None
first_repeated seen (name ∷ names) = if has seen name then Some name else first_repeated (seen ++ name ∷ []) names

abbrev pub are_distinct : List (List ℕ) → Bool
are_distinct names = not (is_some (first_repeated [] names))

-- Each of these names is one of the others.
abbrev pub are_among : List (List ℕ) → List (List ℕ) → Bool
are_among others names = list_all (has others) names

-- The name stands there once, and no other.
abbrev pub is_alone : List ℕ → List (List ℕ) → Bool
is_alone name (other ∷ []) = bytes_eq name other
is_alone name _ = false

-- The name stands there at most once, and no other.
abbrev pub is_at_most : List ℕ → List (List ℕ) → Bool
is_at_most name [] = true
is_at_most name names = is_alone name names

-- Names have the same members as others.
pub record HasAll (names others : List (List ℕ)) : Type 0 where
  pub same : (name : List ℕ) → has names name ≡ has others name
