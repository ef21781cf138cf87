-- Sound waveforms of one job, for one history or for two.
use Rattle.std.specs.Prelude.{◌≡◌, ℕ, ◌<◌, List, length}
use Rattle.design_cell.specs.declared.value.Value.{Value}
use Rattle.design_circuit.specs.declared.waveform.Written.{Written}
use Rattle.design_circuit.specs.Job.{Job}
use Rattle.design_circuit.specs.Fits.{Fits}
use Rattle.law_model.specs.Laws.{IsSameAt}
use Rattle.law_model.specs.Sound.{IsDecided, Sound}
use Rattle.law_model.specs.declared.line.Line.{Line as ALine}
use Rattle.law_model.specs.declared.limits.Limits.{Limits}

-- Two waveforms have the same marks and certain values where both are written.
abbrev pub AreAlike : List Written → List Written → Type 0
AreAlike v w = (place : ℕ) → place < length v → place < length w → IsSameAt v w place

-- Where no place of it is undecided, each waveform of the job that is sound for any history and any limit, and that has
-- no undecided place, has the same marks and certain values,
abbrev pub IsOneForHistories : Job → List Written → Type 0
IsOneForHistories j waveform = IsDecided waveform → (limits : Limits) (shown : ℕ → Value) (other : List Written)
    → (lines : List ALine) → Sound j limits shown other lines → IsDecided other → AreAlike waveform other

-- and the same values where the history is the same.
abbrev pub IsOneFor : Job → (ℕ → Value) → List Written → Type 0
IsOneFor j shown waveform = IsDecided waveform → (limits : Limits) (other : List Written) (lines : List ALine)
    → length other ≡ length waveform → Sound j limits shown other lines → IsDecided other → other ≡ waveform

-- A sound waveform is the one for every history.
abbrev pub AlikeLaw : Type 0
AlikeLaw = (j : Job) (limits : Limits) (shown : ℕ → Value) (waveform : List Written) (lines : List ALine)
    → Fits j → Sound j limits shown waveform lines → IsOneForHistories j waveform

abbrev pub OneLaw : Type 0
OneLaw = (j : Job) (limits : Limits) (shown : ℕ → Value) (waveform : List Written) (lines : List ALine)
    → Fits j → Sound j limits shown waveform lines → IsOneFor j shown waveform
