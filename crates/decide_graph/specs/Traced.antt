-- What a place of a cone rests on, by the numbers of places, and the places of a cone from its root downwards.
use Rattle.std.specs.Prelude.{◌≡◌, ℕ, ◌≤◌, false, List, [], ◌∷◌, length, reverse}
use Rattle.design_cell.specs.declared.value.Value.{Value}
use Rattle.design_circuit.specs.Job.{Job}
use Rattle.law_model.specs.Class.{class_of}
use Rattle.law_model.specs.Cone.{cone, essentials, is_carried}
use Rattle.law_model.specs.declared.class.ClassByNumber.TheVariants as class
use Rattle.decide_graph.specs.Table.{IsTableOver}
use Rattle.decide_graph.specs.declared.traced.TracedBody.{TracedBody}
use Rattle.decide_graph.specs.declared.traced.TracedBody.TheVariants.{Carried, Rule}

-- The places that it rests on.
abbrev pub supports_in : TracedBody → List ℕ
supports_in (Carried from inverted) = from ∷ []
supports_in (Rule arguments values) = arguments

-- A place that isn't carried rests on its essential arguments, at most 13, with its table over them.
pub record IsRule (j : Job) (certain : ℕ → Value) (place : ℕ) (arguments : List ℕ) (values : List Value) : Type 0 where
  pub free : is_carried (class_of j certain place) ≡ false
  pub few : length arguments ≤ 13
  pub are_essential : arguments ≡ essentials j certain place
  pub is_table : IsTableOver j certain place arguments values

-- It is what the class and the rule of a place say.
abbrev pub IsBodyOf : Job → (ℕ → Value) → ℕ → TracedBody → Type 0
IsBodyOf j certain place (Carried from inverted) = class_of j certain place ≡ class.Carried from inverted
IsBodyOf j certain place (Rule arguments values) = IsRule j certain place arguments values

-- The places of a cone, the greatest first.
abbrev pub AreTraced : Job → (ℕ → Value) → ℕ → List ℕ → Type 0
AreTraced j certain root places = reverse places ≡ cone j certain root
