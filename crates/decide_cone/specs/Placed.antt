-- What a place rests on, by the positions of places in a list.
use Rattle.std.specs.Prelude.{◌≡◌, ℕ, ◌<◌, Bool, List, length, map, slice_index}
use Rattle.std.specs.List.{AllByRecursion}
use Rattle.design_cell.specs.declared.value.Value.{Value}
use Rattle.decide_nodes.specs.declared.node.NodeBody.{NodeBody as Body}
use Rattle.decide_nodes.specs.declared.node.NodeBody.TheVariants as node
use Rattle.decide_graph.specs.declared.traced.TracedBody.{TracedBody}
use Rattle.decide_graph.specs.declared.traced.TracedBody.TheVariants.{Carried, Rule}

pub record IsPlacedCarry (places : List ℕ) (from : ℕ) (inverted : Bool) (position : ℕ) (flips : Bool) : Type 0 where
  pub within : position < length places
  pub place : slice_index places position ≡ from
  pub same : flips ≡ inverted

pub record IsPlacedRule (places arguments : List ℕ) (values : List Value) (positions : List ℕ)
    (kept : List Value) : Type 0 where
  pub within : AllByRecursion (λ position. position < length places) positions
  pub are_places : map (slice_index places) positions ≡ arguments
  pub same : kept ≡ values

abbrev pub IsPlaced : List ℕ → TracedBody → Body → Type 0
IsPlaced places (Carried from inverted) (node.Carried position flips) =
    IsPlacedCarry places from inverted position flips
IsPlaced places (Carried from inverted) (node.Rule positions kept) = ⊥
IsPlaced places (Rule arguments values) (node.Carried position flips) = ⊥
IsPlaced places (Rule arguments values) (node.Rule positions kept) =
    IsPlacedRule places arguments values positions kept
