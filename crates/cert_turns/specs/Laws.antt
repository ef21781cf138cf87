-- The laws of turns that are stated.
use Rattle.std.specs.Prelude.{◌≡◌, ℕ, ◌+◌, List, length}
use Rattle.design_circuit.specs.declared.place.Place.{Place}
use Rattle.cert_condition.specs.View.{ConditionView, IsConditionOf}
use Rattle.cert_condition.specs.Known.{IsGrown}
use Rattle.wave_proved.specs.Contents.{Contents, IsWave, job}
use Rattle.cert_turns.specs.Conditions.{AreConditionsOf}
use Rattle.cert_turns.specs.TurnLines.{AreTurnLinesIn, turn_lines, turn_places}

-- A condition keeps the first turns of its place, and as many are due as its place has beyond these.
pub record StatesTurns (c : Contents) (root : ℕ) (view : ConditionView) : Type 0 where
  pub are : AreTurnLinesIn c root (turn_lines view)
  pub count : length (turn_lines view) + view.due ≡ length (turn_places (job c) c.written root)

abbrev pub StatedLaw : Type 0
StatedLaw = (c : Contents) (root : ℕ) (view : ConditionView) → IsConditionOf c root view → StatesTurns c root view

-- Conditions of places of a wave stay theirs, whatever is written next.
abbrev pub StayLaw : Type 0
StayLaw = (c d : Contents) (places : List Place) (views : List ConditionView) → IsGrown c d
    → d.limits ≡ c.limits → IsWave d → AreConditionsOf c places views → AreConditionsOf d places views
