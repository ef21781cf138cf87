-- What is shown of the next place, a Line place, and what it gets by its line.
use Rattle.std.specs.Prelude.{◌≡◌, ◌<◌, ◌++◌, ◌∷◌, [], Some, List, length}
use Rattle.design_circuit.specs.declared.place.Place.{Place}
use Rattle.design_circuit.specs.declared.waveform.Written.{Written}
use Rattle.design_circuit.specs.Fits.{place_at}
use Rattle.design_circuit.specs.Job.{places_of}
use Rattle.law_model.specs.Line.{BodyHolds}
use Rattle.law_model.specs.Yields.{Yields, line_of}
use Rattle.law_model.specs.declared.class.Class.TheVariants as seen
use Rattle.law_model.specs.declared.line.Body.{Body}
use Rattle.law_model.specs.declared.line.Body.TheVariants.{Enumerated, Refuted, Pair, Undecided}
use Rattle.law_model.specs.declared.line.Line.{Line as ALine}
use Rattle.wave_proved.specs.Advance.{Contradicts}
use Rattle.wave_proved.specs.Contents.{Contents, job, next_number, next_seen, shown_in}

-- There is a next place, and a body holds there.
abbrev pub HasNext : Contents → Type 0
HasNext c = length c.written < places_of (job c)

abbrev pub HoldsNext : Contents → Body → Type 0
HoldsNext c body = BodyHolds (job c) c.limits c.written (next_number c) body

-- The fact that a line is, over the present contents of a wave: it names the next place, and the body holds there.
pub record LineHolds (c : Contents) (line : ALine) : Type 0 where
  pub within : HasNext c
  pub place_is : line.place ≡ place_at (job c) (next_number c)
  pub holds : HoldsNext c line.body

-- The same of a line that states two fillings,
pub record PairHolds (c : Contents) (line : ALine) : Type 0 where
  pub holds : LineHolds c line
  pub zero : List Place
  pub one : List Place
  pub body_is : line.body ≡ Pair zero one

-- or of one without a log: an enumeration or a pair.
abbrev pub HasNoLog : Body → Type 0
HasNoLog (Enumerated bit) = Unit {0}
HasNoLog (Refuted bit log) = ⊥
HasNoLog (Pair zero one) = Unit {0}
HasNoLog (Undecided log) = ⊥

pub record HoldsWithoutLog (c : Contents) (line : ALine) : Type 0 where
  pub holds : LineHolds c line
  pub no_log : HasNoLog line.body

-- Such a body holds at the next place.
pub record HoldsBare (c : Contents) (body : Body) : Type 0 where
  pub holds : HoldsNext c body
  pub no_log : HasNoLog body

-- The next place is a Line place.
abbrev pub IsLineNext : Contents → Type 0
IsLineNext c = next_seen c ≡ seen.Line

-- What it gets by a line, and the wave with it.
abbrev pub written_by_line : Contents → ALine → Written
written_by_line c line = line_of (Some line.body) (shown_in c (next_number c))

abbrev pub with_line : Contents → ALine → Contents
with_line c line = record c {
  written = c.written ++ written_by_line c line ∷ [];
  lines = c.lines ++ line ∷ [];
}

-- That contradicts what the history knows, or it doesn't.
abbrev pub LineContradicts : Contents → ALine → Type 0
LineContradicts c line = Contradicts c (written_by_line c line)

abbrev pub LineAgrees : Contents → ALine → Type 0
LineAgrees c line = LineContradicts c line → ⊥

-- The lines and one more yield the waveform with what that line says.
abbrev pub LineYields : Contents → ALine → Type 0
LineYields c line = Yields (job c) c.limits (shown_in c) (with_line c line).written (with_line c line).lines
