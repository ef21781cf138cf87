-- Which names are there.
use Rattle.std.specs.Prelude.{◌≡◌, ℕ, Bool, List, bytes_eq}
use Rattle.std.specs.List.{list_any}
use Rattle.netlist_grammar.specs.declared.tree.Word.{Word}

-- a name is one of these
abbrev pub has : List (List ℕ) → List ℕ → Bool
has names name = list_any (bytes_eq name) names

-- a word has the name
abbrev pub is_among : List Word → List ℕ → Bool
is_among words name = list_any (λ (w : Word). bytes_eq name w.text) words

-- These are the names that the words have.
pub record HasNames (names : List (List ℕ)) (words : List Word) : Type 0 where
  pub same : (name : List ℕ) → has names name ≡ is_among words name
