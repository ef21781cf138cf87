-- The lines between a certificate's second line and its last one: those of Line places, and behind each the turns of
-- its place.
use Rattle.std.specs.Prelude.{◌≡◌, ℕ, Bool, true, false, List, [], ◌∷◌, ◌++◌, if◌then◌else◌, map}
use Rattle.design_circuit.specs.declared.waveform.Written.{Written}
use Rattle.design_circuit.specs.Job.{Job, number_of}
use Rattle.law_model.specs.declared.line.Line.{Line as ALine}
use Rattle.law_model.specs.declared.turn.TurnLine.{TurnLine}
use Rattle.cert_turns.specs.View.{ConditionView}
use Rattle.cert_turns.specs.Conditions.{AreConditionsIn, gives_bit}
use Rattle.cert_turns.specs.TurnLines.{AreAllTurnLines, turn_lines}
use Rattle.wave_proved.specs.Contents.{Contents, job}
use Rattle.cert_writer.specs.declared.cert.Entry.{Entry}
use Rattle.cert_writer.specs.declared.cert.Entry.TheVariants.{Line, Turn}
use Rattle.cert_writer.specs.declared.cert.Form.{Form}
use Rattle.cert_writer.specs.declared.cert.Form.TheVariants.{Lines, Turns}

-- The lines of Line places.
abbrev pub lines_in : List Entry → List ALine
lines_in [] = []
lines_in (Line line ∷ entries) = line ∷ lines_in entries
lines_in (Turn turn ∷ entries) = lines_in entries

-- The turns in front of the first of them.
abbrev pub turns_in_front : List Entry → List TurnLine
turns_in_front [] = []
turns_in_front (Line line ∷ entries) = []
turns_in_front (Turn turn ∷ entries) = turn ∷ turns_in_front entries

-- Which turns a line has: in form 2 all those of its place, where it gives a bit; else none.
abbrev pub HasTurnsBy : Bool → Job → ℕ → List Written → ℕ → List TurnLine → Type 0
HasTurnsBy true j limit waveform root turns = AreAllTurnLines j limit waveform root turns
HasTurnsBy false j limit waveform root turns = turns ≡ []

abbrev pub HasTurns : Form → Job → ℕ → List Written → ALine → List TurnLine → Type 0
HasTurns Lines j limit waveform line turns = turns ≡ []
HasTurns Turns j limit waveform line turns =
    HasTurnsBy (gives_bit line.body) j limit waveform (number_of j line.place) turns

-- Behind each line stand its turns.
abbrev pub EachHasTurns : Form → Job → ℕ → List Written → List Entry → Type 0
EachHasTurns form j limit waveform [] = Unit {0}
EachHasTurns form j limit waveform (Line line ∷ entries) =
    HasTurns form j limit waveform line (turns_in_front entries) × EachHasTurns form j limit waveform entries
EachHasTurns form j limit waveform (Turn turn ∷ entries) = EachHasTurns form j limit waveform entries

-- Lines are turned: behind each stand its turns, and none stands in front of the first.
pub record AreTurned (form : Form) (j : Job) (limit : ℕ) (waveform : List Written) (entries : List Entry) : Type 0 where
  pub none_in_front : turns_in_front entries ≡ []
  pub each : EachHasTurns form j limit waveform entries

abbrev pub AreTurnedIn : Form → Contents → List Entry → Type 0
AreTurnedIn form c entries = AreTurned form (job c) c.limits.conflicts c.written entries

-- The conditions that a certificate of a form goes with: those of the certain Line places in form 2, none in form 1.
abbrev pub AreConditionsFor : Form → Contents → List ConditionView → Type 0
AreConditionsFor Lines c views = views ≡ []
AreConditionsFor Turns c views = AreConditionsIn c views

-- Lines, and behind each that gives a bit the turns of the next condition.
abbrev pub entries_of : List ALine → List ConditionView → List Entry
entries_of [] views = []
entries_of (line ∷ lines) [] = Line line ∷ entries_of lines []
entries_of (line ∷ lines) (view ∷ views) =
    Line line
    ∷ (if gives_bit line.body then map (λ turn. Turn turn) (turn_lines view) ++ entries_of lines views
    else entries_of lines (view ∷ views))
