-- When a waveform with its lines is sound for a history.
use Rattle.std.specs.Prelude.{◌≡◌, ◌≢◌, ℕ, ℤ, ◌<◌, ◌≤◌, Bool, true, false, Some, List, length}
use Rattle.design_cell.specs.declared.value.Value.{Value}
use Rattle.design_cell.specs.declared.value.Value.TheVariants.{Zero, One, X, Z}
use Rattle.design_cell.specs.Value.{IsKnown}
use Rattle.design_circuit.specs.declared.waveform.Written.{Written}
use Rattle.design_circuit.specs.declared.waveform.Mark.{Mark}
use Rattle.design_circuit.specs.declared.waveform.Mark.TheVariants.{Certain, Unknown, Undecided}
use Rattle.design_circuit.specs.Job.{Job, places_of}
use Rattle.design_circuit.specs.Waveform.{written_at, certain, MarkHolds, Shows}
use Rattle.law_model.specs.Class.{class_of}
use Rattle.law_model.specs.Root.{root_of}
use Rattle.law_model.specs.Stated.{stated, body_at}
use Rattle.law_model.specs.Line.{GivesBoth, IsLicence}
use Rattle.law_model.specs.Yields.{certain_bit, flipped_value}
use Rattle.law_model.specs.declared.class.ClassByNumber.{ClassByNumber}
use Rattle.law_model.specs.declared.class.ClassByNumber.TheVariants.{Local, Free, Carried, Line}
use Rattle.law_model.specs.declared.line.Line.{Line as ALine}
use Rattle.law_model.specs.declared.line.Body.TheVariants.{Undecided as Budget}
use Rattle.law_model.specs.declared.limits.Limits.{Limits}

-- What a carried place has, from the place that it is carried from.
pub record FollowsCarrier (inverted : Bool) (from written : Written) : Type 0 where
  pub mark : written.mark ≡ from.mark
  pub value : from.mark ≡ Certain → written.value ≡ flipped_value inverted from.value

-- A local place is certain with its bit, a free one is unknown, and a carried one has the mark of the place that it is
-- carried from, with the value inverted where the class says so.
abbrev pub FollowsClass : (ℕ → Written) → ClassByNumber → Written → Type 0
FollowsClass earlier (Local bit) written = written ≡ certain_bit bit
FollowsClass earlier Free written = written.mark ≡ Unknown
FollowsClass earlier (Carried from inverted) written = FollowsCarrier inverted (earlier from) written
FollowsClass earlier Line written = Unit {0}

-- The licence of a place stands in the line of its root.
pub record HasLicence (j : Job) (limits : Limits) (waveform : List Written) (lines : List ALine)
    (place : ℕ) : Type 0 where
  pub log : List (List ℤ)
  pub line : body_at j lines (root_of j (certain waveform) place).place ≡ Some (Budget log)
  pub holds : IsLicence j limits waveform (root_of j (certain waveform) place).place log

-- A place is sound where its two stated fillings give both bits if it is unknown, and it has its licence if it is
-- undecided.
abbrev pub SoundBy : Job → Limits → List Written → List ALine → ℕ → Mark → Value → Type 0
SoundBy j limits waveform lines place mark value =
    MarkHolds j waveform place (GivesBoth j waveform place (stated j (certain waveform) lines place))
    (HasLicence j limits waveform lines place) mark value

-- A waveform with its lines is sound for what a history shows: each place follows its class, is exact or has its
-- licence, and shows what the history knows.
pub record Sound (j : Job) (limits : Limits) (shown : ℕ → Value) (waveform : List Written)
    (lines : List ALine) : Type 0 where
  pub within : length waveform ≤ places_of j
  pub classes : (place : ℕ) → place < length waveform
      → FollowsClass (written_at waveform) (class_of j (certain waveform) place) (written_at waveform place)
  pub exact : (place : ℕ) → place < length waveform
      → SoundBy j limits waveform lines place (written_at waveform place).mark (written_at waveform place).value
  pub shows : Shows shown waveform

-- No place is undecided.
abbrev pub IsDecided : List Written → Type 0
IsDecided waveform = (place : ℕ) → place < length waveform → (written_at waveform place).mark ≢ Undecided

-- A place is optimistic for a history where that knows it, and it is certain with another value, or unknown.
abbrev pub IsOptimistic : Mark → Value → Value → Type 0
IsOptimistic Certain value shown = IsKnown shown × (value ≢ shown)
IsOptimistic Unknown value shown = IsKnown shown
IsOptimistic Undecided value shown = ⊥

abbrev pub IsOptimisticAt : (ℕ → Value) → List Written → ℕ → Type 0
IsOptimisticAt shown waveform place =
    IsOptimistic (written_at waveform place).mark (written_at waveform place).value (shown place)

-- No place is optimistic.
abbrev pub IsHonest : (ℕ → Value) → List Written → Type 0
IsHonest shown waveform = (place : ℕ) → place < length waveform → IsOptimisticAt shown waveform place → ⊥
