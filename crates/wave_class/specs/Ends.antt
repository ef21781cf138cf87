-- What the rule of a place gives for the first and for the last choice of bits, and what its class can be then.
use Rattle.std.specs.Prelude.{◌≡◌, ℕ, ◌-◌, ◌^◌, ◌&&◌, Bool, true, false, Option, None, Some, List, [], ◌∷◌, length}
use Rattle.std.specs.Prelude.{if◌then◌else◌}
use Rattle.design_cell.specs.declared.value.Value.{Value}
use Rattle.design_cell.specs.declared.value.Value.TheVariants.{Zero, One, X, Z}
use Rattle.design_circuit.specs.Job.{Job}
use Rattle.law_model.specs.Class.{is_bit, is_carrier}
use Rattle.law_model.specs.declared.class.ClassByNumber.{ClassByNumber}
use Rattle.law_model.specs.declared.class.ClassByNumber.TheVariants.{Carried, Line}
use Rattle.wave_class.specs.declared.ends.Ends.{Ends}
use Rattle.wave_class.specs.declared.test.Test.{Test}
use Rattle.wave_class.specs.declared.test.Test.TheVariants.{Bit, Unknown}
use Rattle.wave_class.specs.Test.{value_by_number}

-- Two values are what the rule gives where all of some places are 0, and where they are all 1.
pub record AreEnds (j : Job) (certain : ℕ → Value) (place : ℕ) (places : List ℕ) (ends : Ends) : Type 0 where
  pub first : ends.first ≡ value_by_number j certain place places 0
  pub last : ends.last ≡ value_by_number j certain place places (2 ^ length places - 1)

-- The one test of a local or free place that passes for the first choice.
abbrev pub test_at : Value → Test
test_at Zero = Bit false
test_at One = Bit true
test_at X = Unknown
test_at Z = Unknown

-- A place that is carried from one of them has 0 first and then 1, or inverted 1 and then 0.
abbrev pub inverted_by : Value → Value → Option Bool
inverted_by first last =
    if is_bit first false && is_bit last true then Some false
    else if is_bit first true && is_bit last false then Some true
    else None

-- The first of some places that a place is carried from, where it is told whether that inverts.
abbrev pub copied_or_line : Job → (ℕ → Value) → ℕ → Bool → List ℕ → ClassByNumber
copied_or_line j certain place inverted [] = Line
copied_or_line j certain place inverted (from ∷ others) =
    if is_carrier j certain place from inverted then Carried from inverted
    else copied_or_line j certain place inverted others
