-- The copies that are made, once it is known which definitions are come to.
use Rattle.std.specs.Prelude.{ℕ, List, [], ◌∷◌, ◌++◌, Bool, false, Option, None, Some, nat_eq, if◌then◌else◌}
use Rattle.std.specs.List.{list_any}
use Rattle.netlist_trim.specs.Definition.{Defined}
use Rattle.netlist_trim.specs.Needed.{first_named}
use Rattle.netlist_trim.specs.Trims.{copy_of}

abbrev pub is_among : List ℕ → Option ℕ → Bool
is_among numbers None = false
is_among numbers (Some k) = list_any (nat_eq k) numbers

-- The first definition of its name is come to.
abbrev pub is_kept : List Defined → List ℕ → Defined → Bool
is_kept all numbers d = is_among numbers (first_named all d.name)

-- The copies of those that are kept.
abbrev pub copies : List ℕ → List Defined → List ℕ → List Defined → List ℕ
copies text all numbers [] = []
copies text all numbers (d ∷ ds) =
    if is_kept all numbers d then copy_of text d ++ copies text all numbers ds else copies text all numbers ds
