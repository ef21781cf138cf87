-- Names of nets that are made already.
use Rattle.std.specs.Prelude.{◌≡◌, ℕ, Option, None, List, IfSome, length, slice_index_or}
use Rattle.design_circuit.specs.Design.{name_in}
use Rattle.design_circuit.specs.Name.{written_name}
use Rattle.design_circuit.specs.declared.design.Design.{Design}

-- There may be a name for each net of a design, and it is the net's written one.
pub record AreNamesIn (design : Design) (names : List (Option (List ℕ))) : Type 0 where
  pub long : length names ≡ length design.nets
  pub written : (net : ℕ)
      → IfSome (slice_index_or names net None) (λ name. name ≡ written_name (name_in design net))

-- There is none.
abbrev pub HasNoName : List (Option (List ℕ)) → Type 0
HasNoName names = (net : ℕ) → slice_index_or names net None ≡ None
