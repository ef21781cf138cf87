-- Tables by their halves: those in which the last argument is 0 and 1.
use Rattle.std.specs.Prelude.{◌≡◌, ◌≢◌, ℕ, ◌+◌, ◌^◌, ◌⊎◌, Bool, List, slice_index_or, if◌then◌else◌}
use Rattle.std.specs.List.{Contains}
use Rattle.design_cell.specs.declared.value.Value.{Value}
use Rattle.design_cell.specs.declared.value.Value.TheVariants.{X}
use Rattle.design_cell.specs.Value.{bit_value}
use Rattle.decide_choices.specs.declared.choice.Choice.{Choice}
use Rattle.decide_choices.specs.Choices.{ForcesIn, StandOnce}

-- The value of a table at a number, x past its end.
abbrev pub value_at : List Value → ℕ → Value
value_at values number = slice_index_or values number X

-- A value is the bit just where two values are.
pub record IsAgreed (bit : Bool) (low high both : Value) : Type 0 where
  pub to_both : low ≡ bit_value bit → high ≡ bit_value bit → both ≡ bit_value bit
  pub from_low : both ≡ bit_value bit → low ≡ bit_value bit
  pub from_high : both ≡ bit_value bit → high ≡ bit_value bit

-- A table has the bit just where two tables have it.
abbrev pub AreBoth : Bool → List Value → List Value → List Value → Type 0
AreBoth bit low high both = (k : ℕ) → IsAgreed bit (value_at low k) (value_at high k) (value_at both k)

-- A choice of the first arguments and a bit for the next.
abbrev pub with_argument : ℕ → Bool → Choice → Choice
with_argument count last choice =
    record { care = choice.care + 2 ^ count; bits = choice.bits + (if last then 2 ^ count else 0) }

-- One of some choices that doesn't force the bit in the other half.
pub record IsAlone (other : List Value) (count : ℕ) (bit : Bool) (found : List Choice) (choice : Choice) : Type 0 where
  pub inside : Contains found choice
  pub alone : ForcesIn other count bit choice → ⊥

-- No choice of a list is one that is found, with a bit for the next argument.
abbrev pub StandApart : ℕ → Bool → List Choice → List Choice → Type 0
StandApart count last old found =
    (a b : Choice) → Contains old a → Contains found b → a ≢ with_argument count last b

-- To a list are added those of some choices that don't force the bit in the other half, each with a bit for the next
-- argument.
pub record AreAdded (other : List Value) (count : ℕ) (bit last : Bool) (old found choices : List Choice) : Type 0 where
  pub kept : (choice : Choice) → Contains old choice → Contains choices choice
  pub added : (choice : Choice) → IsAlone other count bit found choice
      → Contains choices (with_argument count last choice)
  pub each : (choice : Choice) → Contains choices choice
      → Contains old choice
      ⊎ ((one : Choice) × IsAlone other count bit found one × (choice ≡ with_argument count last one))
  pub once : StandOnce old → StandOnce found → StandApart count last old found → StandOnce choices
