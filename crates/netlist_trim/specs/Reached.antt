-- The definitions that a top needs, by their numbers.
use Rattle.std.specs.Prelude.{◌≡◌, ℕ, List, ◌++◌, All, Contains, Option, None, Some, map, nat_eq, slice_get}
use Rattle.std.specs.Borrow.{Bor}
use Rattle.indexmap.specs.IndexSet.{insert_key}
use Rattle.netlist_trim.specs.Definition.{Defined}
use Rattle.netlist_trim.specs.Needed.{first_named}

-- Definition k mentions a name whose first definition is j.
pub record Leads (ds : List Defined) (k j : ℕ) : Type 0 where
  pub d : Defined
  pub is : slice_get ds k ≡ Some d
  pub name : List ℕ
  pub mentioned : Contains d.mentions name
  pub first : first_named ds name ≡ Some j

-- From a definition others are come to.
pub data Reaches (ds : List Defined) (top : ℕ) : ℕ → Type 0 where
  itself : Reaches ds top top
  led : {k j : ℕ} → Reaches ds top k → Leads ds k j → Reaches ds top j

-- The numbers are of all that is come to, and of nothing else.
pub record AreReached (ds : List Defined) (top : ℕ) (numbers : List ℕ) : Type 0 where
  pub sound : (k : ℕ) → Contains numbers k → Reaches ds top k
  pub whole : (k : ℕ) → Reaches ds top k → Contains numbers k

-- ---- numbers that grow

-- The number of a definition more, if there is one, unless it is there.
abbrev pub with_first : Option ℕ → List ℕ → List ℕ
with_first None numbers = numbers
with_first (Some j) numbers = insert_key nat_eq numbers j

abbrev pub texts_of : List (Bor (List ℕ)) → List (List ℕ)
texts_of names = map (λ (name : Bor (List ℕ)). name.now) names

-- The first definition of one of the names.
abbrev pub IsFirstOf : List Defined → List (List ℕ) → ℕ → Type 0
IsFirstOf ds names j = (name : List ℕ) × Contains names name × (first_named ds name ≡ Some j)

-- Numbers come after those that were there, each of the first definition of one of the names; and all these are there.
pub record Grows (ds : List Defined) (names : List (List ℕ)) (old new : List ℕ) : Type 0 where
  pub more : List ℕ
  pub grown : new ≡ old ++ more
  pub sound : All (IsFirstOf ds names) more
  pub whole : (name : List ℕ) (j : ℕ) → Contains names name → first_named ds name ≡ Some j → Contains new j

-- So by what definition k mentions.
pub record GrowsFrom (ds : List Defined) (k : ℕ) (old new : List ℕ) : Type 0 where
  pub d : Defined
  pub is : slice_get ds k ≡ Some d
  pub grows : Grows ds d.mentions old new
