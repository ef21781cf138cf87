-- A step gone over by what is due in it: sets of positions, as a walk by changes keeps them.
use Rattle.std.specs.Prelude.{◌≡◌, ◌⊎◌, ℕ, ◌+◌, ◌*◌, ◌<◌, ◌≤◌, Bool, true, false, Contains, List, [], length}
use Rattle.std.specs.List.{AllByRecursion}
use Rattle.design_cell.specs.declared.value.Value.{Value}
use Rattle.design_circuit.specs.declared.design.Driver.{Driver}
use Rattle.design_circuit.specs.declared.design.Driver.TheVariants.{Cell, Constant, Copy, Input, Register, Undriven}
use Rattle.design_circuit.specs.declared.waveform.Written.{Written}
use Rattle.design_circuit.specs.Fits.{Fits}
use Rattle.design_circuit.specs.Job.{Job, at, places_of}
use Rattle.design_circuit.specs.Order.{arguments_of_driver}
use Rattle.design_circuit.specs.Waveform.{certain}
use Rattle.law_model.specs.Class.{before, class_of, keeps}
use Rattle.law_model.specs.declared.line.Line.{Line as ALine}
use Rattle.law_model.specs.declared.limits.Limits.{Limits}
use Rattle.wave_class.specs.Facts.{AgreeBefore}
use Rattle.replay_fans.specs.Nets.{driver_on, looked_at, net_on}
use Rattle.law_quiet.specs.Ahead.{RestsFrom, is_calm}
use Rattle.law_quiet.specs.Due.{is_first_round, is_recorded_same}
use Rattle.law_quiet.specs.Runs.{IsRepeated, IsRun, and_next, repeated}

-- The place at a position of a step.
abbrev pub spot_at : Job → ℕ → ℕ → ℕ
spot_at j step position = step * j.width + position

-- From a position of a step on, each that isn't due rests, as far as the places before that position tell.
pub record AreDue (j : Job) (certain : ℕ → Value) (step position : ℕ) (due : ℕ → Bool) : Type 0 where
  pub rests : (p : ℕ) → position ≤ p → p < j.width → due p ≡ false
      → RestsFrom j certain (spot_at j step position) (spot_at j step p)

-- Each position that isn't due one step later is calm, where its place stands before a position of the step, and of the
-- nets that it looks back at those whose places stand before that keep.
pub record AreAhead (j : Job) (certain : ℕ → Value) (step position : ℕ) (ahead : ℕ → Bool) : Type 0 where
  pub calm : (p : ℕ) → p < position → ahead p ≡ false → is_calm j certain (spot_at j step p) ≡ true
  pub still : (p : ℕ) → p < j.width → ahead p ≡ false
      → AllByRecursion (λ net. at j step net < spot_at j step position
      → keeps j certain (class_of j certain) step net ≡ true) (looked_at (driver_on j p))

-- As a step begins a driver is recorded as a step before, or is no matter of the recording.
abbrev pub IsRecordedOn : Job → ℕ → ℕ → Driver → Type 0
IsRecordedOn j step net Input = (is_first_round j step ≡ false) ⊎ (is_recorded_same j step net ≡ true)
IsRecordedOn j step net Undriven = is_first_round j step ≡ false
IsRecordedOn j step net (Constant bit) = Unit {0}
IsRecordedOn j step net (Copy argument) = Unit {0}
IsRecordedOn j step net (Cell table pins) = Unit {0}
IsRecordedOn j step net (Register latching) = Unit {0}

-- A waveform has the places of the steps before, and of the first positions of a step.
pub record IsGoneOver (j : Job) (waveform : List Written) (step position : ℕ) (due ahead : ℕ → Bool) : Type 0 where
  pub length_is : length waveform ≡ spot_at j step position
  pub due_here : AreDue j (certain waveform) step position due
  pub due_later : AreAhead j (certain waveform) step position ahead

-- At the start all are due; one step later none has to be yet.
abbrev pub all_due : ℕ → Bool
all_due p = true

abbrev pub StartLaw : Type 0
StartLaw = (j : Job) (ahead : ℕ → Bool) → IsGoneOver j [] 0 0 all_due ahead

-- A step begins with what was due one step later, and with what the recording stirs; one step later none has to be yet.
abbrev pub BeginsLaw : Type 0
BeginsLaw = (j : Job) (waveform : List Written) (step : ℕ) (old_due ahead due new_ahead : ℕ → Bool) → Fits j
    → spot_at j (step + 1) j.width ≤ places_of j → AgreeBefore j (certain waveform) (length waveform)
    → IsGoneOver j waveform step j.width old_due ahead
    → ((p : ℕ) → p < j.width → due p ≡ false → (ahead p ≡ false)
    × IsRecordedOn j (step + 1) (net_on j p) (driver_on j p))
    → IsGoneOver j waveform (step + 1) 0 due new_ahead

-- The place at a position is written, whatever it has. What isn't due then wasn't, and doesn't read its net there, or
-- that keeps; so for one step later, and the position itself is due then, or calm.
abbrev pub KeepsOn : Job → List Written → ℕ → ℕ → Type 0
KeepsOn j waveform step position =
    keeps j (certain waveform) (class_of j (certain waveform)) step (net_on j position) ≡ true

pub record IsVisit (j : Job) (waveform : List Written) (step position : ℕ) (due ahead new_due new_ahead : ℕ → Bool)
    : Type 0 where
  pub readers : (p : ℕ) → position < p → p < j.width → new_due p ≡ false
      → (due p ≡ false) × (KeepsOn j waveform step position
      ⊎ (Contains (arguments_of_driver (driver_on j p)) (net_on j position) → ⊥))
  pub lookers : (p : ℕ) → p < j.width → new_ahead p ≡ false
      → (ahead p ≡ false) × (KeepsOn j waveform step position
      ⊎ (Contains (looked_at (driver_on j p)) (net_on j position) → ⊥))
  pub calm : new_ahead position ≡ false → is_calm j (certain waveform) (spot_at j step position) ≡ true

abbrev pub VisitLaw : Type 0
VisitLaw = (j : Job) (waveform : List Written) (written : Written) (step position : ℕ)
    (due ahead new_due new_ahead : ℕ → Bool) → Fits j → position < j.width
    → spot_at j step j.width ≤ places_of j → IsGoneOver j waveform step position due ahead
    → IsVisit j (and_next waveform written) step position due ahead new_due new_ahead
    → IsGoneOver j (and_next waveform written) step (position + 1) new_due new_ahead

-- Some positions of which none is due are a run, where the history shows the same at each;
abbrev pub NoneDueLaw : Type 0
NoneDueLaw = (j : Job) (shown : ℕ → Value) (waveform : List Written) (step position many : ℕ) (due ahead : ℕ → Bool)
    → Fits j
    → 0 < many → position + many ≤ j.width → spot_at j step j.width ≤ places_of j
    → IsGoneOver j waveform step position due ahead
    → ((p : ℕ) → position ≤ p → p < position + many
    → (due p ≡ false) × (shown (spot_at j step p) ≡ shown (before j (spot_at j step p))))
    → IsRun j shown waveform many

-- and they are passed over with both sets as they are.
abbrev pub SkipLaw : Type 0
SkipLaw = (j : Job) (limits : Limits) (shown : ℕ → Value) (waveform : List Written) (lines : List ALine)
    (step position many : ℕ) (due ahead : ℕ → Bool) → Fits j → position + many ≤ j.width
    → spot_at j step j.width ≤ places_of j
    → IsGoneOver j waveform step position due ahead → IsRepeated j limits shown waveform lines many
    → IsGoneOver j (repeated j waveform many) step (position + many) due ahead
