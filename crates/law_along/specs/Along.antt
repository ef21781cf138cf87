-- How a wave goes on along lines, and what is then true of its logs.
use Rattle.std.specs.Prelude.{◌≡◌, ℕ, ◌<◌, Some, List, [], length}
use Rattle.design_circuit.specs.declared.waveform.Written.{Written}
use Rattle.design_circuit.specs.Fits.{Fits}
use Rattle.design_circuit.specs.Waveform.{certain}
use Rattle.law_model.specs.Query.{variables}
use Rattle.law_model.specs.Stated.{body_at}
use Rattle.law_model.specs.declared.line.Body.{Body}
use Rattle.law_model.specs.declared.line.Body.TheVariants.{Enumerated, Refuted, Pair, Undecided}
use Rattle.law_model.specs.declared.line.Line.{Line as ALine}
use Rattle.wave_proved.specs.Advance.{Contradicts, IsPlain, plain_written, with_written}
use Rattle.wave_proved.specs.Contents.{Contents, job, next_seen}
use Rattle.wave_proved.specs.Token.{IsLineNext, LineAgrees, with_line}
use Rattle.law_along.specs.Accepted.{AcceptsLine, NamesVariables}

-- A wave goes on: by places whose class says what they are, and by Line places, each by a line that is accepted there;
-- none of them contradicts the history.
pub data GoesAlong (start : Contents) : Contents → Type 0 where
  stays : GoesAlong start start
  by_class : {c : Contents} → GoesAlong start c → IsPlain (next_seen c) → (Contradicts c (plain_written c) → ⊥)
      → GoesAlong start (with_written c (plain_written c))
  by_line : {c : Contents} → GoesAlong start c → (line : ALine) → IsLineNext c → AcceptsLine c line → LineAgrees c line
      → GoesAlong start (with_line c line)

-- A log of a waveform's line names variables of the query of its place alone.
abbrev pub BodyFitsAt : Contents → List Written → ℕ → Body → Type 0
BodyFitsAt start waveform place (Enumerated bit) = Unit {0}
BodyFitsAt start waveform place (Refuted bit log) =
    NamesVariables (length (variables (job start) (certain waveform) place)) log
BodyFitsAt start waveform place (Pair zero one) = Unit {0}
BodyFitsAt start waveform place (Undecided log) =
    NamesVariables (length (variables (job start) (certain waveform) place)) log

-- So do all logs of a wave.
abbrev pub LogsFit : Contents → Type 0
LogsFit c = (place : ℕ) (body : Body) → place < length c.written → body_at (job c) c.lines place ≡ Some body
    → BodyFitsAt c c.written place body

-- They do where it went along lines from nothing.
abbrev pub LogsAlongFit : Type 0
LogsAlongFit = (start c : Contents) → GoesAlong start c → Fits (job start) → start.written ≡ [] → start.lines ≡ []
    → LogsFit c
