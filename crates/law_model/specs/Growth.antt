-- What is always true of a waveform that is built place by place, and what the next place may be.
use Rattle.std.specs.Prelude.{◌≡◌, ℕ, ◌<◌, List, [], ◌∷◌, length}
use Rattle.design_cell.specs.declared.value.Value.{Value}
use Rattle.design_circuit.specs.declared.waveform.Written.{Written}
use Rattle.design_circuit.specs.Job.{Job, places_of}
use Rattle.design_circuit.specs.Fits.{place_at}
use Rattle.design_circuit.specs.Waveform.{certain}
use Rattle.law_model.specs.Class.{class_of}
use Rattle.law_model.specs.Line.{BodyHolds}
use Rattle.law_model.specs.Yields.{written_in, Yields}
use Rattle.law_model.specs.Sound.{Sound, IsOptimistic}
use Rattle.law_model.specs.declared.class.ClassByNumber.{ClassByNumber}
use Rattle.law_model.specs.declared.class.ClassByNumber.TheVariants.{Local, Free, Carried, Line}
use Rattle.law_model.specs.declared.line.Line.{Line as ALine}
use Rattle.law_model.specs.declared.limits.Limits.{Limits}

-- It is sound, and its lines yield it.
pub record Holds (j : Job) (limits : Limits) (shown : ℕ → Value) (waveform : List Written)
    (lines : List ALine) : Type 0 where
  pub sound : Sound j limits shown waveform lines
  pub yields : Yields j limits shown waveform lines

-- The new line of a Line place is of this place, and its body holds.
pub record IsLineOf (j : Job) (limits : Limits) (waveform : List Written) (new : List ALine) : Type 0 where
  pub line : ALine
  pub one : new ≡ line ∷ []
  pub place : line.place ≡ place_at j (length waveform)
  pub holds : BodyHolds j limits waveform (length waveform) line.body

-- Where the class is another, there is no new line.
abbrev pub NextLines : Job → Limits → List Written → List ALine → ClassByNumber → Type 0
NextLines j limits waveform new (Local bit) = new ≡ []
NextLines j limits waveform new Free = new ≡ []
NextLines j limits waveform new (Carried from inverted) = new ≡ []
NextLines j limits waveform new Line = IsLineOf j limits waveform new

-- The next place is written as its class and its line say, with these new lines.
pub record NextSaid (j : Job) (limits : Limits) (shown : ℕ → Value) (waveform : List Written) (written : Written)
    (new : List ALine) : Type 0 where
  pub within : length waveform < places_of j
  pub lines : NextLines j limits waveform new (class_of j (certain waveform) (length waveform))
  pub as_said : written ≡ written_in j shown waveform new (length waveform)

-- It may be written so, since it isn't optimistic.
pub record NextHolds (j : Job) (limits : Limits) (shown : ℕ → Value) (waveform : List Written) (written : Written)
    (new : List ALine) : Type 0 where
  pub said : NextSaid j limits shown waveform written new
  pub honest : IsOptimistic written.mark written.value (shown (length waveform)) → ⊥
