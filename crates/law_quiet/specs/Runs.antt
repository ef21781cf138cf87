-- Runs of quiet places.
use Rattle.std.specs.Prelude.{◌≡◌, ◌⊎◌, ℕ, zero, suc, ◌+◌, ◌-◌, ◌*◌, ◌<◌, ◌≤◌, true, Contains, List, [], ◌∷◌, ◌++◌}
use Rattle.std.specs.Prelude.{drop, length, take}
use Rattle.design_cell.specs.declared.value.Value.{Value}
use Rattle.design_circuit.specs.declared.waveform.Written.{Written}
use Rattle.design_circuit.specs.Fits.{Fits}
use Rattle.design_circuit.specs.Job.{Job, net_of, places_of, step_of}
use Rattle.design_circuit.specs.Order.{arguments_of_driver}
use Rattle.design_circuit.specs.Waveform.{certain, written_at}
use Rattle.law_model.specs.Class.{before, class_of, keeps}
use Rattle.law_model.specs.Growth.{Holds, NextHolds}
use Rattle.law_model.specs.declared.line.Line.{Line as ALine}
use Rattle.law_model.specs.declared.limits.Limits.{Limits}
use Rattle.law_quiet.specs.Ahead.{IsAhead, RestsFrom, is_calm}
use Rattle.law_quiet.specs.Due.{driver_of}
use Rattle.law_quiet.specs.Laws.{IsSteady, SaysTheSame}

-- So many places from the next one of a waveform on, all in one step, are quiet as far as the waveform tells, and the
-- history shows at each what it shows at its net's place a step before.
pub record IsRun (j : Job) (shown : ℕ → Value) (waveform : List Written) (many : ℕ) : Type 0 where
  pub within : length waveform + many ≤ places_of j
  pub one_step : length waveform + many ≤ (step_of j (length waveform) + 1) * j.width
  pub rests : (place : ℕ) → length waveform ≤ place → place < length waveform + many
      → RestsFrom j (certain waveform) (length waveform) place
  pub shows : (place : ℕ) → length waveform ≤ place → place < length waveform + many
      → shown place ≡ shown (before j place)

-- A waveform with so many places more, each of which has what its net's place a step before has.
abbrev pub before_next : Job → List Written → Written
before_next j waveform = written_at waveform (before j (length waveform))

unfoldable pub repeated : Job → List Written → ℕ → List Written
repeated j waveform zero = waveform
repeated j waveform (suc many) = repeated j waveform many ++ before_next j (repeated j waveform many) ∷ []

-- Each of them may be written so, without a line, and is steady and calm, as its class says; what is always true of a
-- waveform stays true; and a place ahead that was quiet as far as the waveform told is quiet as far as it tells now.
pub record IsRepeated (j : Job) (limits : Limits) (shown : ℕ → Value) (waveform : List Written) (lines : List ALine)
    (many : ℕ) : Type 0 where
  pub each : (done : ℕ) → done < many
      → NextHolds j limits shown (repeated j waveform done) (before_next j (repeated j waveform done)) []
  pub holds : Holds j limits shown (repeated j waveform many) lines
  pub steady : (place : ℕ) → length waveform ≤ place → place < length waveform + many
      → IsSteady j (certain (repeated j waveform many)) place
  pub says : (place : ℕ) → length waveform ≤ place → place < length waveform + many
      → SaysTheSame j (certain (repeated j waveform many)) place (class_of j (certain (repeated j waveform many)) place)
  pub calm : (place : ℕ) → length waveform ≤ place → place < length waveform + many
      → is_calm j (certain (repeated j waveform many)) place ≡ true
  pub ahead : (place : ℕ) → IsAhead j (length waveform) place → length waveform + many ≤ place
      → RestsFrom j (certain waveform) (length waveform) place
      → RestsFrom j (certain (repeated j waveform many)) (length waveform + many) place

-- So a run can be written.
abbrev pub RunLaw : Type 0
RunLaw = (j : Job) (limits : Limits) (shown : ℕ → Value) (waveform : List Written) (lines : List ALine) (many : ℕ)
    → Fits j → Holds j limits shown waveform lines → IsRun j shown waveform many
    → IsRepeated j limits shown waveform lines many

-- Where the next place is written, whatever it has, a place ahead that was quiet as far as the waveform told is quiet
-- as far as it tells now, where the net of what is written keeps, or its driver doesn't read that.
abbrev pub and_next : List Written → Written → List Written
and_next waveform written = waveform ++ written ∷ []

abbrev pub KeepsNext : Job → List Written → Written → Type 0
KeepsNext j waveform written =
    keeps j (certain (and_next waveform written)) (class_of j (certain (and_next waveform written)))
    (step_of j (length waveform)) (net_of j (length waveform)) ≡ true

abbrev pub ReadsNext : Job → List Written → ℕ → Type 0
ReadsNext j waveform place = Contains (arguments_of_driver (driver_of j place)) (net_of j (length waveform))

abbrev pub NextLaw : Type 0
NextLaw = (j : Job) (waveform : List Written) (written : Written) (place : ℕ) → Fits j
    → IsAhead j (length waveform) place
    → length waveform < place → KeepsNext j waveform written ⊎ (ReadsNext j waveform place → ⊥)
    → RestsFrom j (certain waveform) (length waveform) place
    → RestsFrom j (certain (and_next waveform written)) (length waveform + 1) place

-- A run is a stretch of the waveform that begins a step before the next place, written again behind it.
abbrev pub stretched : Job → List Written → ℕ → List Written
stretched j waveform many = waveform ++ take many (drop (length waveform - j.width) waveform)

abbrev pub StretchLaw : Type 0
StretchLaw = (j : Job) (waveform : List Written) (many : ℕ) → Fits j → j.width ≤ length waveform
    → length waveform + many ≤ places_of j → length waveform + many ≤ (step_of j (length waveform) + 1) * j.width
    → repeated j waveform many ≡ stretched j waveform many
