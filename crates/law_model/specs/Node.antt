-- The nodes of a cone, by their positions in the list of its places: what code keeps of a cone.
use Rattle.std.specs.Prelude.{◌≡◌, ℕ, ◌<◌, Bool, true, false, List, map, length, slice_index, slice_index_or}
use Rattle.std.specs.List.{AllByRecursion}
use Rattle.design_cell.specs.declared.value.Value.{Value}
use Rattle.design_cell.specs.declared.value.Value.TheVariants.{X}
use Rattle.design_circuit.specs.Job.{Job}
use Rattle.design_circuit.specs.World.{decided}
use Rattle.law_model.specs.Class.{class_of, flipped}
use Rattle.law_model.specs.Cone.{is_carried, essentials, table}
use Rattle.law_model.specs.Places.{places_where}
use Rattle.law_model.specs.Mask.{mask_of}
use Rattle.law_model.specs.declared.class.ClassByNumber.TheVariants.{Carried}

-- A place is carried from the place at a position, or has a rule with arguments at positions and a table of values.
pub data NodeBody : Type 0 where
  carried : ℕ → Bool → NodeBody
  ruled : List ℕ → List Value → NodeBody

-- The arguments are the essential ones, in place order, and the value at number i is the rule's where bit k of i is
-- the bit of argument k.
pub record IsRuled (j : Job) (certain : ℕ → Value) (places : List ℕ) (place : ℕ) (arguments : List ℕ)
    (values : List Value) : Type 0 where
  pub free : is_carried (class_of j certain place) ≡ false
  pub within : AllByRecursion (λ argument. argument < length places) arguments
  pub are_essential : map (slice_index places) arguments ≡ essentials j certain place
  pub are_values : (bits : ℕ → Bool)
      → slice_index_or values (mask_of (essentials j certain place) bits) X ≡ table j certain place bits

pub record HasCarrier (j : Job) (certain : ℕ → Value) (places : List ℕ) (place node : ℕ)
    (inverted : Bool) : Type 0 where
  pub within : node < length places
  pub class : class_of j certain place ≡ Carried (slice_index places node) inverted

abbrev pub IsBody : Job → (ℕ → Value) → List ℕ → ℕ → NodeBody → Type 0
IsBody j certain places place (carried node inverted) = HasCarrier j certain places place node inverted
IsBody j certain places place (ruled arguments values) = IsRuled j certain places place arguments values

-- The bit of a node, from the bits of nodes by position and its filling's bit.
abbrev pub node_bit : (ℕ → Bool) → Bool → NodeBody → Bool
node_bit bits filling (carried node inverted) = flipped inverted (bits node)
node_bit bits filling (ruled arguments values) = decided (slice_index_or values (mask_of arguments bits) X) filling

-- The numbers below n, in order: the positions of n arguments.
abbrev pub upto : ℕ → List ℕ
upto n = places_where (λ k. true) n

-- A table of values over n arguments, which are told by their positions.
abbrev pub table_of : List Value → ℕ → (ℕ → Bool) → Value
table_of values n bits = slice_index_or values (mask_of (upto n) bits) X
