-- Where a walk along a certificate's lines stands, and what comes of a step.
use Rattle.std.specs.Prelude.{◌≡◌, ℕ, true, ◌<◌, Option, None, Some, List, [], ◌∷◌, ◌++◌}
use Rattle.design_circuit.specs.declared.place.Place.{Place}
use Rattle.law_model.specs.declared.line.Line.{Line as ALine}
use Rattle.law_model.specs.declared.turn.TurnLine.{TurnLine}
use Rattle.wave_proved.specs.Advance.{IsPlain}
use Rattle.wave_proved.specs.Contents.{Contents, IsFinished, IsWave, job, next_seen, shown_in}
use Rattle.wave_proved.specs.Token.{IsLineNext, LineAgrees, with_line}
use Rattle.cert_turns.specs.OfCone.{AreRightOf}
use Rattle.cert_turns.specs.View.{ConditionView}
use Rattle.cert_turns.specs.Conditions.{IsConditionAt, gives_bit}
use Rattle.cert_turns.specs.TurnLines.{turn_lines}
use Rattle.law_along.specs.Accepted.{AcceptsLine}
use Rattle.law_along.specs.Along.{GoesAlong}
use Rattle.law_waveforms.specs.Alike.{IsOneFor, IsOneForHistories}
use Rattle.cert_writer.specs.declared.cert.Entry.{Entry}
use Rattle.cert_writer.specs.declared.cert.Form.{Form}
use Rattle.cert_writer.specs.declared.cert.Form.TheVariants.{Turns}
use Rattle.cert_check.specs.Entries.{AreConditionsFor, AreTurnedIn, entries_of, lines_in}
use Rattle.cert_check.specs.Walk.{IsFirstCertFault, due_line, with_turns}
use Rattle.cert_check.specs.declared.refusal.CheckErr.{CheckErr}
use Rattle.cert_check.specs.declared.walked.Course.{Course}
use Rattle.cert_check.specs.declared.walked.Walked.{Walked}

-- Between lines of Line places: a wave came along some lines, which are its own with the turns of its conditions.
pub record IsBetween (form : Form) (start : Contents) (done : List Entry) (c : Contents)
    (conditions : List ConditionView) : Type 0 where
  pub none : start.lines ≡ []
  pub goes : GoesAlong start c
  pub wave : IsWave c
  pub done_is : done ≡ entries_of c.lines conditions
  pub conditions_are : AreConditionsFor form c conditions

-- Behind the line of a certain place, and the first of its turns: the place was the last to be written.
pub record IsBehind (start : Contents) (done : List Entry) (c : Contents) (conditions : List ConditionView)
    (place : Place) (stated : List TurnLine) : Type 0 where
  pub before : Contents
  pub passed : List Entry
  pub line : ALine
  pub between : IsBetween Turns start passed before conditions
  pub next : IsLineNext before
  pub accepts : AcceptsLine before line
  pub agrees : LineAgrees before line
  pub gives : gives_bit line.body ≡ true
  pub place_is : line.place ≡ place
  pub is : c ≡ with_line before line
  pub done_is : done ≡ passed ++ with_turns line stated

-- These are the turns that the condition of the place keeps.
pub record IsAmid (start : Contents) (done : List Entry) (c : Contents) (conditions : List ConditionView)
    (condition : ConditionView) : Type 0 where
  pub place : Place
  pub behind : IsBehind start done c conditions place (turn_lines condition)
  pub condition_is : IsConditionAt c place condition

-- One or the other, by whether a condition is under way.
abbrev pub StandsAt : Form → Contents → List Entry → Contents → List ConditionView → Option ConditionView → Type 0
StandsAt form start done c conditions None = IsBetween form start done c conditions
StandsAt form start done c conditions (Some condition) = (form ≡ Turns) × IsAmid start done c conditions condition

abbrev pub Stands : Form → Contents → List Entry → Walked → Type 0
Stands form start done walked =
    StandsAt form start done walked.course.wave walked.course.conditions.items walked.under_way

-- What helps to find cones is right of the wave.
abbrev pub IsRight : Course → Type 0
IsRight course = AreRightOf course.wave course.cones.value

-- It waits for a line: the next place is a Line place or there is none, or a turn is due.
abbrev pub Waits : Contents → Option ConditionView → Type 0
Waits c None = IsPlain (next_seen c) → ⊥
Waits c (Some condition) = 0 < condition.due

pub record IsWaiting (walked : Walked) : Type 0 where
  pub waits : Waits walked.course.wave walked.under_way
  pub right : IsRight walked.course

-- A line is taken, from wherever the walk came there; or it is the first that the walk can't take.
abbrev pub Takes : Form → Contents → List ConditionView → Option ConditionView → Entry → Walked → Type 0
Takes form c conditions under_way entry next = (start : Contents) (done : List Entry)
    → StandsAt form start done c conditions under_way → Stands form start (done ++ entry ∷ []) next

abbrev pub StopsAt : Form → ℕ → Contents → List ConditionView → Option ConditionView → Entry → CheckErr → Type 0
StopsAt form number c conditions under_way entry e = (start : Contents) (done rest : List Entry)
    → StandsAt form start done c conditions under_way → number ≡ due_line done
    → IsFirstCertFault form start (done ++ entry ∷ rest) e

-- The walk comes to a line from between lines, or ends before.
abbrev pub ComesFrom : Contents → List ConditionView → Walked → Type 0
ComesFrom c conditions next = (form : Form) (start : Contents) (done : List Entry)
    → IsBetween form start done c conditions → Stands form start done next

abbrev pub EndsFrom : Contents → List ConditionView → CheckErr → Type 0
EndsFrom c conditions e = (form : Form) (start : Contents) (done rest : List Entry)
    → IsBetween form start done c conditions → IsFirstCertFault form start (done ++ rest) e

-- The same from behind a line, with the turns that are stated of its place,
abbrev pub ComesBehind : Contents → List ConditionView → Place → Walked → Type 0
ComesBehind c conditions place next = (start : Contents) (done : List Entry)
    → IsBehind start done c conditions place [] → Stands Turns start done next

abbrev pub EndsBehind : Contents → List ConditionView → Place → CheckErr → Type 0
EndsBehind c conditions place e = (start : Contents) (done rest : List Entry)
    → IsBehind start done c conditions place [] → IsFirstCertFault Turns start (done ++ rest) e

-- or those that its condition keeps.
abbrev pub ComesAmid : Contents → List ConditionView → ConditionView → Walked → Type 0
ComesAmid c conditions condition next = (start : Contents) (done : List Entry)
    → IsAmid start done c conditions condition → Stands Turns start done next

abbrev pub EndsAmid : Contents → List ConditionView → ConditionView → CheckErr → Type 0
EndsAmid c conditions condition e = (start : Contents) (done rest : List Entry)
    → IsAmid start done c conditions condition → IsFirstCertFault Turns start (done ++ rest) e

-- It went along all lines and to the end.
pub record IsDone (form : Form) (start : Contents) (entries : List Entry) (c : Contents)
    (conditions : List ConditionView) : Type 0 where
  pub goes : GoesAlong start c
  pub lines : c.lines ≡ lines_in entries
  pub turned : AreTurnedIn form c entries
  pub stated : entries ≡ entries_of c.lines conditions
  pub conditions_are : AreConditionsFor form c conditions
  pub finished : IsFinished c
  pub wave : IsWave c
  pub one : IsOneFor (job c) (shown_in c) c.written
  pub alike : IsOneForHistories (job c) c.written

-- From between lines it is done, or the next place lacks its line.
abbrev pub EndsWell : Contents → List ConditionView → Contents → List ConditionView → Type 0
EndsWell c conditions last all = (form : Form) (start : Contents) (done : List Entry)
    → IsBetween form start done c conditions → IsDone form start done last all

abbrev pub EndsShort : Contents → List ConditionView → CheckErr → Type 0
EndsShort c conditions e = (form : Form) (start : Contents) (done : List Entry)
    → IsBetween form start done c conditions → IsFirstCertFault form start done e

-- The same from wherever it stands, or a turn is due. The number is that of the text's last line.
abbrev pub Finishes : Walked → Contents → List ConditionView → Type 0
Finishes walked c conditions = (form : Form) (start : Contents) (done : List Entry)
    → Stands form start done walked → IsDone form start done c conditions

abbrev pub Lacks : ℕ → Walked → CheckErr → Type 0
Lacks number walked e = (form : Form) (start : Contents) (done : List Entry)
    → Stands form start done walked → number ≡ due_line done → IsFirstCertFault form start done e
