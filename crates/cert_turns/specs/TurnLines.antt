-- Turns as a text states them: each with the boundary place whose turn it is.
use Rattle.std.specs.Prelude.{◌≡◌, ℕ, false, List, [], ◌∷◌, ◌++◌, length, map, take}
use Rattle.design_circuit.specs.declared.place.Place.{Place}
use Rattle.design_circuit.specs.declared.waveform.Written.{Written}
use Rattle.design_circuit.specs.Fits.{place_at}
use Rattle.design_circuit.specs.Job.{Job}
use Rattle.design_circuit.specs.Waveform.{certain}
use Rattle.design_circuit.specs.World.{decided}
use Rattle.cert_condition.specs.Boundary.{certain_boundary}
use Rattle.cert_condition.specs.Turns.{AreTurnsOf, first_due}
use Rattle.cert_condition.specs.View.{ConditionView, IsConditionOf, IsTurnIn, IsTurned, next_in}
use Rattle.law_model.specs.declared.turn.Turn.{Turn}
use Rattle.law_model.specs.declared.turn.TurnLine.{TurnLine}
use Rattle.wave_proved.specs.Contents.{Contents, job}

abbrev pub places_of_turns : List TurnLine → List Place
places_of_turns lines = map (λ (line : TurnLine). line.place) lines

abbrev pub turns_in : List TurnLine → List Turn
turns_in lines = map (λ (line : TurnLine). line.turn) lines

-- The places that have a turn, in place order: the certain boundary of a certain place, where it has at most 64 places.
abbrev pub turn_places : Job → List Written → ℕ → List ℕ
turn_places j waveform root = first_due (certain_boundary j (certain waveform) root)

-- Lines state the first turns of a certain place of a waveform.
pub record AreTurnLines (j : Job) (limit : ℕ) (waveform : List Written) (root : ℕ)
    (lines : List TurnLine) : Type 0 where
  pub places : places_of_turns lines ≡ map (place_at j) (take (length lines) (turn_places j waveform root))
  pub hold : AreTurnsOf j (certain waveform) root (decided (certain waveform root) false) limit (turns_in lines)

-- They state all its turns.
pub record AreAllTurnLines (j : Job) (limit : ℕ) (waveform : List Written) (root : ℕ)
    (lines : List TurnLine) : Type 0 where
  pub are : AreTurnLines j limit waveform root lines
  pub all : length lines ≡ length (turn_places j waveform root)

-- Turns with their places.
abbrev pub stated : List Place → List Turn → List TurnLine
stated places [] = []
stated [] (turn ∷ turns) = []
stated (place ∷ places) (turn ∷ turns) = record { place = place; turn = turn } ∷ stated places turns

-- The turns that a condition keeps, as a text states them.
abbrev pub turn_lines : ConditionView → List TurnLine
turn_lines view = stated view.boundary view.turns

abbrev pub AreTurnLinesIn : Contents → ℕ → List TurnLine → Type 0
AreTurnLinesIn c root lines = AreTurnLines (job c) c.limits.conflicts c.written root lines

-- A line is taken: it states the next turn, which is made.
pub record IsTaken (old : ConditionView) (line : TurnLine) (new : ConditionView) : Type 0 where
  pub turned : IsTurned old line.turn new
  pub lines : turn_lines new ≡ turn_lines old ++ line ∷ []

-- A turn isn't the next one, whichever place the condition is of.
abbrev pub IsNeverNext : ConditionView → Turn → Type 0
IsNeverNext view turn = (c : Contents) (root : ℕ) → IsConditionOf c root view
    → IsTurnIn c root (next_in c root view.turns) turn → ⊥

-- A line doesn't state the next turn.
abbrev pub IsNoTurn : ConditionView → TurnLine → Type 0
IsNoTurn view line = (c : Contents) (root : ℕ) → IsConditionOf c root view
    → AreTurnLinesIn c root (turn_lines view ++ line ∷ []) → ⊥
