-- What a place's rule gives for bits by number, and tests of what it gives for every assignment.
use Rattle.std.specs.Prelude.{ℕ, ◌&&◌, ◌||◌, Bool, true, false, List, not, Contains}
use Rattle.design_cell.specs.declared.value.Value.{Value}
use Rattle.design_cell.specs.Value.{is_unknown}
use Rattle.design_circuit.specs.Job.{Job}
use Rattle.design_circuit.specs.Rule.{rule, arguments}
use Rattle.law_model.specs.Assignment.{argument_places, assigned, for_every}
use Rattle.law_model.specs.Class.{is_bit, flipped}
use Rattle.law_model.specs.Mask.{masked}
use Rattle.wave_class.specs.declared.test.Test.{Test}
use Rattle.wave_class.specs.declared.test.Test.TheVariants.{Bit, Unknown, Known, Copies}

-- Bit i of the number is the bit of argument place i.
abbrev pub numbered_value : Job → (ℕ → Value) → ℕ → ℕ → Value
numbered_value j certain place number = rule j certain (masked (argument_places j certain place) number) place

-- The rule's value is the bit, x, or 0 or 1; or it is the bit of a place, as it is or inverted.
abbrev pub test_of : Job → (ℕ → Value) → ℕ → Test → (ℕ → Bool) → Bool
test_of j certain place (Bit bit) bits = is_bit (rule j certain bits place) bit
test_of j certain place Unknown bits = is_unknown (rule j certain bits place)
test_of j certain place Known bits = not (is_unknown (rule j certain bits place))
test_of j certain place (Copies from inverted) bits = is_bit (rule j certain bits place) (flipped inverted (bits from))

-- It passes for the assignment that chooses a number's bits for some places, and for every assignment.
abbrev pub passes_number : Job → (ℕ → Value) → ℕ → Test → List ℕ → ℕ → Bool
passes_number j certain place test places number =
    test_of j certain place test (assigned certain (masked places number))

abbrev pub passes : Job → (ℕ → Value) → ℕ → Test → Bool
passes j certain place test = for_every j certain place (test_of j certain place test)

-- The place that a test reads is an argument place.
abbrev pub ReadsOnly : Job → (ℕ → Value) → ℕ → Test → Type 0
ReadsOnly j certain place (Bit bit) = Unit {0}
ReadsOnly j certain place Unknown = Unit {0}
ReadsOnly j certain place Known = Unit {0}
ReadsOnly j certain place (Copies from inverted) = Contains (arguments j certain place) from

-- What the rule gives for the assignment that chooses a number's bits for some places.
abbrev pub value_by_number : Job → (ℕ → Value) → ℕ → List ℕ → ℕ → Value
value_by_number j certain place places number = rule j certain (assigned certain (masked places number)) place

-- Of two values one is 0, 1 or x and the other isn't.
abbrev pub differ : Value → Value → Bool
differ x y =
    not ((is_bit x false && is_bit y false) || (is_bit x true && is_bit y true) || (is_unknown x && is_unknown y))
