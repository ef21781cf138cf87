-- What a table says, as implications.
use Rattle.std.specs.Prelude.{◌≡◌, Bool, false, true, List, ◌++◌, map}
use Rattle.design_cell.specs.declared.value.Value.{Value}
use Rattle.decide_choices.specs.declared.choice.Choice.{Choice}
use Rattle.decide_choices.specs.Choices.{AreMinimalChoices}
use Rattle.decide_justify.specs.declared.implication.Implication.{Implication}

-- A choice that forces a bit.
abbrev pub implication_of : Bool → Choice → Implication
implication_of forced choice = record { care = choice.care; bits = choice.bits; forced = forced }

-- To implications come the minimal choices of a table that force a bit.
pub record AddsChoices (values : List Value) (forced : Bool) (old new : List Implication) : Type 0 where
  pub choices : List Choice
  pub minimal : AreMinimalChoices values forced choices
  pub are : new ≡ old ++ map (implication_of forced) choices

-- The minimal choices of a table that force 0, and after them those that force 1.
pub record AreImplications (values : List Value) (implications : List Implication) : Type 0 where
  pub zeros : List Choice
  pub ones : List Choice
  pub force_zero : AreMinimalChoices values false zeros
  pub force_one : AreMinimalChoices values true ones
  pub are : implications ≡ map (implication_of false) zeros ++ map (implication_of true) ones
