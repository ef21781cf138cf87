-- When a line is accepted at the next place of a wave.
use Rattle.std.specs.Prelude.{◌≡◌, ℕ, ℤ, ◌<◌, List, length}
use Rattle.std.specs.List.{All}
use Rattle.design_circuit.specs.Filling.{IsPlace}
use Rattle.design_circuit.specs.Fits.{place_at}
use Rattle.design_circuit.specs.Job.{number_of}
use Rattle.design_circuit.specs.Waveform.{certain}
use Rattle.law_model.specs.Query.{variables}
use Rattle.law_model.specs.declared.line.Body.{Body}
use Rattle.law_model.specs.declared.line.Body.TheVariants.{Enumerated, Refuted, Pair, Undecided}
use Rattle.law_model.specs.declared.line.Line.{Line as ALine}
use Rattle.sat_proof.specs.Assignment.{HasNoZero}
use Rattle.sat_proof.specs.Log.{Fit}
use Rattle.wave_proved.specs.Contents.{Contents, job, next_number}
use Rattle.wave_proved.specs.Token.{HoldsNext, LineHolds}

-- A line is of the next place,
abbrev pub NamesNext : Contents → ALine → Type 0
NamesNext c line = line.place ≡ place_at (job c) (next_number c)

-- or of a later one of the job.
pub record IsLater (c : Contents) (line : ALine) : Type 0 where
  pub place : IsPlace (job c) line.place
  pub later : next_number c < number_of (job c) line.place

-- How many variables the query of the next place has.
abbrev pub variables_next : Contents → ℕ
variables_next c = length (variables (job c) (certain c.written) (next_number c))

-- A log names no others, and the literal 0 nowhere.
pub record NamesVariables (count : ℕ) (log : List (List ℤ)) : Type 0 where
  pub fit : Fit count log
  pub no_zero : All HasNoZero log

abbrev pub LogFits : Contents → List (List ℤ) → Type 0
LogFits c log = NamesVariables (variables_next c) log

abbrev pub BodyFits : Contents → Body → Type 0
BodyFits c (Enumerated bit) = Unit {0}
BodyFits c (Refuted bit log) = LogFits c log
BodyFits c (Pair zero one) = Unit {0}
BodyFits c (Undecided log) = LogFits c log

-- A body is accepted there where it holds, and its log names variables of the query alone.
pub record AcceptsBody (c : Contents) (body : Body) : Type 0 where
  pub holds : HoldsNext c body
  pub fits : BodyFits c body

-- So is a line of the next place.
pub record AcceptsLine (c : Contents) (line : ALine) : Type 0 where
  pub line_holds : LineHolds c line
  pub fits : BodyFits c line.body
