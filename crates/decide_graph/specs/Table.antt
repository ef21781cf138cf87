-- Tables of the rule of a place over some of its argument places, and which bits their values rest on.
use Rattle.std.specs.Prelude.{◌≡◌, ℕ, ◌+◌, ◌/◌, ◌%◌, ◌^◌, ◌<◌, ◌==◌, ◌&&◌, Bool, true, false, List, length, not}
use Rattle.std.specs.Prelude.{slice_index_or}
use Rattle.design_cell.specs.declared.value.Value.{Value}
use Rattle.design_cell.specs.declared.value.Value.TheVariants.{X}
use Rattle.design_circuit.specs.Job.{Job}
use Rattle.design_circuit.specs.Rule.{rule}
use Rattle.law_model.specs.Assignment.{assigned}
use Rattle.law_model.specs.Cone.{are_alike}
use Rattle.law_model.specs.Mask.{masked, mask_of}

-- What the rule of a place gives where some places have the bits of a number and the other uncertain ones have 0.
abbrev pub value_on : Job → (ℕ → Value) → ℕ → List ℕ → ℕ → Value
value_on j certain place places number = rule j certain (assigned certain (masked places number)) place

-- Values are those that it gives for all choices of bits for the places, by number.
pub record IsTableOver (j : Job) (certain : ℕ → Value) (place : ℕ) (places : List ℕ)
    (values : List Value) : Type 0 where
  pub long : length values ≡ 2 ^ length places
  pub are_values : (number : ℕ) → number < 2 ^ length places
      → slice_index_or values number X ≡ value_on j certain place places number

-- Two numbers differ in one bit alone, which is 0 in the first, and the values there differ.
abbrev pub differs_at : List Value → ℕ → ℕ → Bool
differs_at values bit number =
    ((number / 2 ^ bit) % 2 == 0)
    && not (are_alike (slice_index_or values number X) (slice_index_or values (number + 2 ^ bit) X))

-- There are such numbers, or there are none.
pub record Differs (values : List Value) (bit : ℕ) : Type 0 where
  pub number : ℕ
  pub within : number + 2 ^ bit < length values
  pub differ : differs_at values bit number ≡ true

abbrev pub IsSame : List Value → ℕ → Type 0
IsSame values bit = (number : ℕ) → number + 2 ^ bit < length values → differs_at values bit number ≡ false

-- Whether the values rest on a bit.
abbrev pub Rests : List Value → ℕ → Bool → Type 0
Rests values bit true = Differs values bit
Rests values bit false = IsSame values bit

-- A table over fewer places: the value for each choice of their bits is the one where the other places have 0.
pub record IsCut (places kept : List ℕ) (values cut : List Value) : Type 0 where
  pub long : length cut ≡ 2 ^ length kept
  pub are_values : (number : ℕ) → number < 2 ^ length kept
      → slice_index_or cut number X ≡ slice_index_or values (mask_of places (masked kept number)) X
