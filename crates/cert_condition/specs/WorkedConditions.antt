-- Two conditions worked by hand. In both a is unknown and c is 0, over four rounds; in place order the nets are a, c,
-- b, y. In the first b is `buf a` and y is `a xor b xor c`, so y is 0 and needs c. In the second b is `not a` and y is
-- `a or b or c`, so y is 1 and needs nothing.
use Rattle.std.specs.Prelude.{◌≡◌, ℕ, pos, negsuc, true, false, List, [], ◌∷◌, slice_index_or}
use Rattle.design_cell.specs.declared.value.Value.{Value}
use Rattle.design_cell.specs.declared.value.Value.TheVariants.{Zero, One, X}
use Rattle.design_cell.specs.declared.gate.Gate.{Gate as Kind}
use Rattle.design_cell.specs.declared.gate.Gate.TheVariants.{Buf, Or, Not, Xor}
use Rattle.design_circuit.specs.declared.design.Driver.{Driver}
use Rattle.design_circuit.specs.declared.design.Driver.TheVariants.{Input, Undriven, Cell}
use Rattle.design_circuit.specs.declared.design.Table.TheVariants.{Gate}
use Rattle.design_circuit.specs.declared.design.Pin.TheVariants.{Net}
use Rattle.design_circuit.specs.declared.stim.Levels.TheVariants.{Change}
use Rattle.design_circuit.specs.declared.stim.StartRule.TheVariants.{Cold}
use Rattle.design_circuit.specs.Job.{Job}
use Rattle.law_model.specs.Cone.{cone}
use Rattle.decide_cone.specs.Boundary.{boundary, certain_boundary}
use Rattle.cert_condition.specs.Condition.{IsCondition}
use Rattle.cert_condition.specs.TurnQuery.{turn_literal, turn_variables}

abbrev pub drivers : Kind → Kind → List Driver
drivers first second =
    Input ∷ Input ∷ Cell (Gate second) (Net 0 ∷ Net 3 ∷ Net 1 ∷ []) ∷ Cell (Gate first) (Net 0 ∷ []) ∷ []

abbrev pub design : Kind → Kind → Job
design first second = record {
  width = 4;
  driver = λ net. slice_index_or (drivers first second) net Undriven;
  udps = [];
  order = 0 ∷ 1 ∷ 3 ∷ 2 ∷ [];
  rounds = 4;
  moments = 1;
  recorded = λ moment net. slice_index_or (X ∷ Zero ∷ []) net X;
  start_rule = Cold;
  levels = Change;
  start = λ net. X;
}

abbrev pub needed : Job
needed = design Buf Xor

abbrev pub needed_certain : ℕ → Value
needed_certain place = slice_index_or (X ∷ Zero ∷ X ∷ Zero ∷ []) place X

abbrev pub dropped : Job
dropped = design Not Or

abbrev pub dropped_certain : ℕ → Value
dropped_certain place = slice_index_or (X ∷ Zero ∷ X ∷ One ∷ []) place X

-- The cone of y is a, b and y, its boundary is c, and the variables are a, c and y.
pub record NeededParts : Type 0 where
  pub cone_is : cone needed needed_certain 3 ≡ 0 ∷ 2 ∷ 3 ∷ []
  pub boundary_is : boundary needed needed_certain 3 ≡ 1 ∷ []
  pub certain_is : certain_boundary needed needed_certain 3 ≡ 1 ∷ []
  pub variables_are : turn_variables needed needed_certain 3 ≡ 0 ∷ 1 ∷ 3 ∷ []
  pub a_is : turn_literal needed needed_certain 3 0 true ≡ pos 1
  pub b_is : turn_literal needed needed_certain 3 2 true ≡ pos 1
  pub c_is : turn_literal needed needed_certain 3 1 true ≡ pos 2
  pub y_is : turn_literal needed needed_certain 3 3 true ≡ pos 3

pub record DroppedParts : Type 0 where
  pub cone_is : cone dropped dropped_certain 3 ≡ 0 ∷ 2 ∷ 3 ∷ []
  pub boundary_is : boundary dropped dropped_certain 3 ≡ 1 ∷ []
  pub certain_is : certain_boundary dropped dropped_certain 3 ≡ 1 ∷ []
  pub variables_are : turn_variables dropped dropped_certain 3 ≡ 0 ∷ 1 ∷ 3 ∷ []
  pub b_is : turn_literal dropped dropped_certain 3 2 true ≡ negsuc 0

-- Where c may have either bit, y of the first may be 1, and y of the second is 1.
abbrev pub NeededNeeds : Type 0
NeededNeeds = IsCondition needed needed_certain 3 false [] → ⊥

abbrev pub NeededHolds : Type 0
NeededHolds = IsCondition needed needed_certain 3 false (1 ∷ [])

abbrev pub DroppedHolds : Type 0
DroppedHolds = IsCondition dropped dropped_certain 3 true []
