-- The laws of quiet places, which the functions of src/laws.rt ensure. Each holds for all rules by which registers
-- go.
use Rattle.std.specs.Prelude.{◌≡◌, ℕ, ◌<◌, ◌↔◌, true, false, List, [], length}
use Rattle.design_cell.specs.declared.value.Value.{Value}
use Rattle.design_cell.specs.Value.{bit_value, is_unknown}
use Rattle.design_circuit.specs.declared.place.Place.{Place}
use Rattle.design_circuit.specs.declared.waveform.Written.{Written}
use Rattle.design_circuit.specs.Filling.{IsFilling}
use Rattle.design_circuit.specs.Fits.{Fits}
use Rattle.design_circuit.specs.Job.{Job, net_of, places_of, step_of}
use Rattle.design_circuit.specs.Waveform.{certain, written_at}
use Rattle.law_model.specs.Class.{before, class_of, keeps}
use Rattle.law_model.specs.Laws.{InReach, InSound, world_over}
use Rattle.law_model.specs.Growth.{NextHolds, NextSaid}
use Rattle.law_model.specs.Root.{root_of}
use Rattle.law_model.specs.Sound.{Sound}
use Rattle.law_model.specs.Yields.{carried_of}
use Rattle.law_model.specs.declared.class.ClassByNumber.{ClassByNumber}
use Rattle.law_model.specs.declared.class.ClassByNumber.TheVariants.{Local, Free, Carried, Line}
use Rattle.law_model.specs.declared.line.Line.{Line as ALine}
use Rattle.law_model.specs.declared.limits.Limits.{Limits}
use Rattle.wave_class.specs.Facts.{AgreeBefore, AgreesWith}
use Rattle.law_quiet.specs.Due.{IsQuiet, is_quiet}

-- A place is quiet, by the classes of the places before it as they are.
abbrev pub Rests : Job → (ℕ → Value) → ℕ → Type 0
Rests j certain place = IsQuiet j certain (class_of j certain) place

-- The test tells exactly that.
abbrev pub TestLaw : Type 0
TestLaw = (j : Job) (certain : ℕ → Value) (class : ℕ → ClassByNumber) (place : ℕ)
    → (is_quiet j certain class place ≡ true) ↔ IsQuiet j certain class place

-- A class says of a place that it has what its net's place a step before has: it is local with the value that is
-- certain there, or it is carried from there as it is.
abbrev pub SaysTheSame : Job → (ℕ → Value) → ℕ → ClassByNumber → Type 0
SaysTheSame j certain place (Local bit) = certain (before j place) ≡ bit_value bit
SaysTheSame j certain place Free = ⊥
SaysTheSame j certain place (Carried from inverted) = (from ≡ before j place) × (inverted ≡ false)
SaysTheSame j certain place Line = ⊥

-- Where the certain values of the places before a place agree with their classes, and it is quiet, its class says so.
-- So it is neither free nor a Line place.
abbrev pub QuietLaw : Type 0
QuietLaw = (j : Job) (certain : ℕ → Value) (place : ℕ) → Fits j → place < places_of j → AgreeBefore j certain place
    → Rests j certain place → SaysTheSame j certain place (class_of j certain place)

-- Where its own certain value agrees too, it is that of the place before, and its net keeps.
pub record IsSteady (j : Job) (certain : ℕ → Value) (place : ℕ) : Type 0 where
  pub value : certain place ≡ certain (before j place)
  pub keeps : keeps j certain (class_of j certain) (step_of j place) (net_of j place) ≡ true

abbrev pub KeepsLaw : Type 0
KeepsLaw = (j : Job) (certain : ℕ → Value) (place : ℕ) → Fits j → place < places_of j → AgreeBefore j certain place
    → Rests j certain place → AgreesWith certain (class_of j certain place) (certain place) → IsSteady j certain place

-- It has the root of the place before, as it is, where that isn't certain.
abbrev pub RootsLaw : Type 0
RootsLaw = (j : Job) (certain : ℕ → Value) (place : ℕ) → Fits j → place < places_of j → AgreeBefore j certain place
    → Rests j certain place → is_unknown (certain (before j place)) ≡ true
    → root_of j certain place ≡ root_of j certain (before j place)

-- In a sound waveform: in the world of every filling a quiet place has the bit of the place before.
abbrev pub WorldsLaw : Type 0
WorldsLaw = InSound (λ j waveform. (place : ℕ) (filling : List Place) → InReach j waveform place
    → Rests j (certain waveform) place → IsFilling j filling
    → world_over j waveform filling place ≡ world_over j waveform filling (before j place))

-- What a net's place a step before has: its mark, and its value where that is certain, else what the history shows
-- here.
abbrev pub carried_on : (ℕ → Value) → Job → List Written → ℕ → Written
carried_on shown j waveform place =
    let back = written_at waveform (before j place) in
    carried_of false back.mark back.value (shown place)

-- A quiet place that comes next in a sound waveform is written so, without a line,
abbrev pub SaidLaw : Type 0
SaidLaw = (j : Job) (limits : Limits) (shown : ℕ → Value) (waveform : List Written) (lines : List ALine)
    → Fits j → Sound j limits shown waveform lines → length waveform < places_of j
    → Rests j (certain waveform) (length waveform)
    → NextSaid j limits shown waveform (carried_on shown j waveform (length waveform)) []

-- and where the history shows there what it shows at the place before, it is written as that is, and isn't optimistic.
abbrev pub RepeatLaw : Type 0
RepeatLaw = (j : Job) (limits : Limits) (shown : ℕ → Value) (waveform : List Written) (lines : List ALine)
    → Fits j → Sound j limits shown waveform lines → length waveform < places_of j
    → Rests j (certain waveform) (length waveform)
    → shown (length waveform) ≡ shown (before j (length waveform))
    → NextHolds j limits shown waveform (written_at waveform (before j (length waveform))) []
