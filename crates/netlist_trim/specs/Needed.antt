-- What a top needs of what is defined.
use Rattle.std.specs.Prelude.{◌≡◌, ℕ, List, Contains, Option, Some, position, slice_get, bytes_eq}
use Rattle.netlist_trim.specs.Definition.{Defined}

-- The first definition of a name.
abbrev pub first_named : List Defined → List ℕ → Option ℕ
first_named ds name = position (λ (d : Defined). bytes_eq name d.name) ds

-- A name is needed: it is the top's, or the first definition of a needed name mentions it.
pub data Needed (ds : List Defined) (top : List ℕ) : List ℕ → Type 0 where
  itself : Needed ds top top
  mentioned : {name other : List ℕ} {k : ℕ} {d : Defined} → Needed ds top name → first_named ds name ≡ Some k
      → slice_get ds k ≡ Some d → Contains d.mentions other → Needed ds top other
