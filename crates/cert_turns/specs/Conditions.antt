-- The conditions of the certain Line places of a wave.
use Rattle.std.specs.Prelude.{◌≡◌, ◌<◌, Bool, true, false, List, [], ◌∷◌, filter, length, map}
use Rattle.design_cell.specs.Value.{is_unknown}
use Rattle.design_circuit.specs.declared.place.Place.{Place}
use Rattle.design_circuit.specs.Filling.{IsPlace}
use Rattle.design_circuit.specs.Job.{number_of}
use Rattle.design_circuit.specs.Waveform.{certain}
use Rattle.cert_condition.specs.View.{ConditionView, IsConditionOf}
use Rattle.law_model.specs.declared.class.ClassByNumber.TheVariants as class
use Rattle.law_model.specs.declared.line.Body.{Body}
use Rattle.law_model.specs.declared.line.Body.TheVariants.{Enumerated, Refuted, Pair, Undecided}
use Rattle.law_model.specs.declared.line.Line.{Line as ALine}
use Rattle.wave_proved.specs.Contents.{Contents, class_in, job}

-- A line gives its place a bit.
abbrev pub gives_bit : Body → Bool
gives_bit (Enumerated bit) = true
gives_bit (Refuted bit log) = true
gives_bit (Pair zero one) = false
gives_bit (Undecided log) = false

-- The places of those that do: the certain Line places.
abbrev pub settled_places : List ALine → List Place
settled_places lines = map (λ (line : ALine). line.place) (filter (λ (line : ALine). gives_bit line.body) lines)

-- A Line place of a wave is written and certain.
pub record IsCertainLine (c : Contents) (place : Place) : Type 0 where
  pub is_place : IsPlace (job c) place
  pub written : number_of (job c) place < length c.written
  pub line : class_in c (number_of (job c) place) ≡ class.Line
  pub known : is_unknown (certain c.written (number_of (job c) place)) ≡ false

abbrev pub IsConditionAt : Contents → Place → ConditionView → Type 0
IsConditionAt c place view = IsConditionOf c (number_of (job c) place) view

-- A condition of a place, with all turns made.
pub record IsFinishedAt (c : Contents) (place : Place) (view : ConditionView) : Type 0 where
  pub is : IsConditionAt c place view
  pub none_due : view.due ≡ 0

-- Conditions are those of some places, one each, in their order.
abbrev pub AreConditionsOf : Contents → List Place → List ConditionView → Type 0
AreConditionsOf c [] [] = Unit {0}
AreConditionsOf c [] (view ∷ views) = ⊥
AreConditionsOf c (place ∷ places) [] = ⊥
AreConditionsOf c (place ∷ places) (view ∷ views) = IsFinishedAt c place view × AreConditionsOf c places views

-- They are those of all certain Line places of a wave.
abbrev pub AreConditionsIn : Contents → List ConditionView → Type 0
AreConditionsIn c views = AreConditionsOf c (settled_places c.lines) views
