-- Nodes that come in, and what they read.
use Rattle.std.specs.Prelude.{◌≡◌, ℕ, ◌+◌, ◌*◌, ◌/◌, ◌%◌, ◌<◌, ◌≤◌, ◌^◌, ◌==◌, cond, Bool, false, List, [], ◌∷◌, ◌++◌}
use Rattle.std.specs.Prelude.{length, map, slice_index, slice_index_or}
use Rattle.std.specs.List.{AllByRecursion}
use Rattle.design_cell.specs.declared.value.Value.{Value}
use Rattle.design_cell.specs.declared.value.Value.TheVariants.{X}
use Rattle.design_circuit.specs.declared.place.Place.{Place}
use Rattle.design_circuit.specs.Fits.{place_at}
use Rattle.design_circuit.specs.Waveform.{certain}
use Rattle.law_model.specs.Class.{flipped}
use Rattle.law_model.specs.Cone.{essentials, is_carried, table}
use Rattle.law_model.specs.Laws.{InReach}
use Rattle.law_model.specs.Mask.{mask_of}
use Rattle.law_model.specs.Root.{root_of}
use Rattle.decide_nodes.specs.OfWave.{Contents, IsWave, class_in, job}
use Rattle.decide_nodes.specs.declared.node.Node.{Node}
use Rattle.decide_nodes.specs.declared.node.NodeBody.TheVariants.{Rule}
use Rattle.decide_graph.specs.Graph.{IsGraphOf}
use Rattle.decide_graph.specs.declared.node_root.NodeRoot.{NodeRoot}

abbrev pub node_in : NodeRoot → ℕ
node_in root = root.node

abbrev pub no_node_root : NodeRoot
no_node_root = record { node = 0; inverted = false }

abbrev pub node_root_at : List NodeRoot → ℕ → NodeRoot
node_root_at roots k = slice_index_or roots k no_node_root

-- At most 13 of the first nodes.
pub record AreNodeRoots (nodes : ℕ) (roots : List NodeRoot) : Type 0 where
  pub few : length roots ≤ 13
  pub before : AllByRecursion (λ root. node_in root < nodes) roots

-- A number with the bits turned at which the root is inverted.
abbrev pub turned_number : List NodeRoot → ℕ → ℕ
turned_number [] number = 0
turned_number (root ∷ roots) number =
    cond (flipped root.inverted (number % 2 == 1)) 1 0 + 2 * turned_number roots (number / 2)

-- A table by the bits of the nodes.
pub record IsTurnedTable (roots : List NodeRoot) (values turned : List Value) : Type 0 where
  pub long : length turned ≡ length values
  pub are : (number : ℕ) → number < length values
      → slice_index_or turned number X ≡ slice_index_or values (turned_number roots number) X

-- The node of a place comes in, with such a table.
pub record AddsNode (old : List Node) (place : Place) (roots : List NodeRoot) (values : List Value)
    (new : List Node) : Type 0 where
  pub turned : List Value
  pub is_turned : IsTurnedTable roots values turned
  pub nodes : new ≡ old ++ record { place = place; body = Rule (map node_in roots) turned } ∷ []

-- A place after those of the nodes, which isn't carried: some roots are those of its essential arguments, in their
-- order, and a table is over these arguments.
pub record IsRooted (c : Contents) (numbers : List ℕ) (place : ℕ) (roots : List NodeRoot)
    (values : List Value) : Type 0 where
  pub reach : InReach (job c) c.written place
  pub free : is_carried (class_in c place) ≡ false
  pub after : AllByRecursion (λ k. k < place) numbers
  pub before : AllByRecursion (λ root. node_in root < length numbers) roots
  pub long : length roots ≡ length (essentials (job c) (certain c.written) place)
  pub are_roots : (k : ℕ) → k < length roots
      → root_of (job c) (certain c.written) (slice_index (essentials (job c) (certain c.written) place) k)
      ≡ record { place = slice_index numbers (node_root_at roots k).node; inverted = (node_root_at roots k).inverted }
  pub values_long : length values ≡ 2 ^ length roots
  pub are_values : (bits : ℕ → Bool)
      → slice_index_or values (mask_of (essentials (job c) (certain c.written) place) bits) X
      ≡ table (job c) (certain c.written) place bits

abbrev pub GrowLaw : Type 0
GrowLaw = (c : Contents) (old new : List Node) (numbers : List ℕ) (place : ℕ) (roots : List NodeRoot)
    (values : List Value) → IsWave c → IsGraphOf c old numbers → IsRooted c numbers place roots values
    → AddsNode old (place_at (job c) place) roots values new → IsGraphOf c new (numbers ++ place ∷ [])
