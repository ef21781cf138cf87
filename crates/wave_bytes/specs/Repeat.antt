-- Places that are written again, each as its net's place a step before.
use Rattle.std.specs.Prelude.{◌≡◌, ℕ, ◌+◌, ◌-◌, ◌*◌, ◌≤◌, ◌<◌, List, ◌++◌, drop, length, map, take}
use Rattle.design_circuit.specs.Job.{Job, places_of, step_of}
use Rattle.design_circuit.specs.Waveform.{certain}
use Rattle.design_circuit.specs.declared.waveform.Written.{Written}
use Rattle.law_model.specs.Class.{class_of}
use Rattle.law_quiet.specs.Copies.{CopiesAgree}
use Rattle.law_quiet.specs.Laws.{IsSteady, SaysTheSame}
use Rattle.law_quiet.specs.Runs.{repeated}
use Rattle.wave_bytes.specs.Byte.{repeated_byte}
use Rattle.wave_bytes.specs.Kept.{ValuesAgree}
use Rattle.wave_bytes.specs.View.{WaveformView, job}

-- So many places more stand in one step, behind the first.
pub record IsStretch (j : Job) (first many : ℕ) : Type 0 where
  pub later : j.width ≤ first
  pub within : first + many ≤ places_of j
  pub one_step : first + many ≤ (step_of j first + 1) * j.width

-- The class of each place from a first one on says that it has what its net's place a step before has, and its net
-- keeps.
pub record AreSteadyFrom (j : Job) (written : List Written) (first : ℕ) : Type 0 where
  pub says : (place : ℕ) → first ≤ place → place < length written
      → SaysTheSame j (certain written) place (class_of j (certain written) place)
  pub steady : (place : ℕ) → first ≤ place → place < length written → IsSteady j (certain written) place

-- So many places more can be written so.
pub record IsRepeatable (v : WaveformView) (many : ℕ) : Type 0 where
  pub stretch : IsStretch (job v) (length v.written) many
  pub agrees : ValuesAgree (job v) (repeated (job v) v.written many)
  pub steady : AreSteadyFrom (job v) (repeated (job v) v.written many) (length v.written)
  pub copies : CopiesAgree (job v) (repeated (job v) v.written many)

-- The bytes that stand a step before the next places, up to so many.
abbrev pub row_before : Job → List ℕ → ℕ → List ℕ
row_before j bytes many = take many (drop (length bytes - j.width) bytes)

-- They are written again behind some bytes.
abbrev pub AreRepeated : Job → List ℕ → List ℕ → ℕ → Type 0
AreRepeated j old new many = new ≡ old ++ map repeated_byte (row_before j old many)
