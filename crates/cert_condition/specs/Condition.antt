-- Conditions: certain boundary places of a cone whose values settle the place, whatever the rest of the boundary has.
use Rattle.std.specs.Prelude.{◌≡◌, ℕ, Bool, true, false, List}
use Rattle.design_cell.specs.declared.value.Value.{Value}
use Rattle.design_cell.specs.Value.{bit_value}
use Rattle.design_circuit.specs.Job.{Job}
use Rattle.design_circuit.specs.Rule.{rule}
use Rattle.law_model.specs.Places.{among}
use Rattle.law_model.specs.Class.{class_of, flipped}
use Rattle.law_model.specs.Cone.{in_cone, is_carried}
use Rattle.law_model.specs.Root.{root_of}
use Rattle.decide_cone.specs.Boundary.{certain_boundary}

-- Listed places are certain boundary places.
abbrev pub AreOfBoundary : Job → (ℕ → Value) → ℕ → List ℕ → Type 0
AreOfBoundary j certain root listed = (k : ℕ) → among listed k ≡ true → among (certain_boundary j certain root) k ≡ true

-- A choice of bits for a cone and its boundary obeys a list where each listed place has its value, each carried place
-- of the cone the bit of its root, or the other one where the way to it inverts, and each other cone place its rule's
-- value wherever that is 0 or 1.
pub record Obeys (j : Job) (certain : ℕ → Value) (root : ℕ) (listed : List ℕ) (bits : ℕ → Bool) : Type 0 where
  pub given : (k : ℕ) → among listed k ≡ true → certain k ≡ bit_value (bits k)
  pub carried : (k : ℕ) → in_cone j certain root k ≡ true → is_carried (class_of j certain k) ≡ true
      → bits k ≡ flipped (root_of j certain k).inverted (bits (root_of j certain k).place)
  pub ruled : (k : ℕ) (bit : Bool) → in_cone j certain root k ≡ true → is_carried (class_of j certain k) ≡ false
      → rule j certain bits k ≡ bit_value bit → bits k ≡ bit

-- A list is a condition of the place, which has a value, where every choice that obeys it gives the place this value.
pub record IsCondition (j : Job) (certain : ℕ → Value) (root : ℕ) (value : Bool) (listed : List ℕ) : Type 0 where
  pub places : AreOfBoundary j certain root listed
  pub holds : (bits : ℕ → Bool) → Obeys j certain root listed bits → bits root ≡ value
