-- Names with what they stand for.
use Rattle.std.specs.Prelude.{◌≡◌, ℕ, ◌+◌, ◌≤◌, ◌^◌, Option, Some, None, List, [], ◌∷◌, bytes_eq}
use Rattle.std.specs.Borrow.{Bor}
use Rattle.std.specs.Map.{lookup}
use Rattle.elab_nets.specs.State.{net_count}
use Rattle.elab_names.specs.declared.scope.Entry.{Entry}

-- what the map has
abbrev pub names_in : List (Bor (List ℕ) × Entry) → List (List ℕ × Entry)
names_in [] = []
names_in (e ∷ es) = (e.0.now, e.1) ∷ names_in es

-- The nets of each name are among the first 2^20.
abbrev pub HaveNets : List (List ℕ × Entry) → Type 0
HaveNets names = (name : List ℕ) (e : Entry) → lookup (bytes_eq name) names ≡ Some e
    → e.base + net_count e.what e.range ≤ 2 ^ 20

-- The same names with their nets behind so many.
abbrev pub entry_from : ℕ → Entry → Entry
entry_from base e = record { what = e.what; range = e.range; base = base + e.base }

abbrev pub entry_after : ℕ → Option Entry → Option Entry
entry_after base (Some e) = Some (entry_from base e)
entry_after base None = None

abbrev pub names_from : ℕ → List (List ℕ × Entry) → List (List ℕ × Entry)
names_from base [] = []
names_from base (n ∷ ns) = (n.0, entry_from base n.1) ∷ names_from base ns

-- names that are shared, where there are some
abbrev pub shared_from : ℕ → Option (Bor (List (List ℕ × Entry))) → List (List ℕ × Entry)
shared_from base (Some names) = names_from base names.now
shared_from base None = []
