-- The sources of several places together.
use Rattle.std.specs.Prelude.{◌≡◌, ℕ, Bool, false, List, IfSome, IsSome, Option, None, Some}
use Rattle.std.specs.List.{AllByRecursion, list_any}
use Rattle.std.specs.List.Sorted.{IsStrictlyIncreasing}
use Rattle.law_model.specs.Places.{among}
use Rattle.decide_lane_nodes.specs.Covered.{covered_sources}
use Rattle.decide_lane_nodes.specs.declared.literal.Covered.{Covered}

-- Where the sources of a place are kept, they ascend.
abbrev pub AreListed : Covered → ℕ → Type 0
AreListed covered place = IfSome (covered_sources covered place) IsStrictlyIncreasing

-- A place is among the sources of another that are kept, if they are.
abbrev pub is_in : ℕ → Option (List ℕ) → Bool
is_in k None = false
is_in k (Some list) = among list k

abbrev pub keeps_source : Covered → ℕ → ℕ → Bool
keeps_source covered k place = is_in k (covered_sources covered place)

-- They are kept.
abbrev pub HasSources : Covered → ℕ → Type 0
HasSources covered place = IsSome (covered_sources covered place)

-- Those of some places, all of which are kept, in place order.
pub record IsJoined (covered : Covered) (places all : List ℕ) : Type 0 where
  pub rises : IsStrictlyIncreasing all
  pub are : (k : ℕ) → among all k ≡ list_any (keeps_source covered k) places
  pub kept : AllByRecursion (HasSources covered) places
