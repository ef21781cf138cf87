-- A waveform shown for another history: the marks and the certain values stay.
use Rattle.std.specs.Prelude.{◌≡◌, ℕ, suc, ◌<◌, List, [], ◌∷◌, length}
use Rattle.design_cell.specs.declared.value.Value.{Value}
use Rattle.design_circuit.specs.declared.waveform.Written.{Written}
use Rattle.design_circuit.specs.declared.waveform.Mark.{Mark}
use Rattle.design_circuit.specs.declared.waveform.Mark.TheVariants.{Certain, Unknown, Undecided}
use Rattle.design_circuit.specs.Job.{Job}
use Rattle.design_circuit.specs.Fits.{Fits}
use Rattle.design_circuit.specs.Waveform.{written_at}
use Rattle.law_model.specs.Laws.{IsSameAt}
use Rattle.law_model.specs.Yields.{Yields, uncertain}
use Rattle.law_model.specs.declared.line.Line.{Line as ALine}
use Rattle.law_model.specs.declared.limits.Limits.{Limits}

-- A waveform has the marks and the certain values of another, and shows a history where it isn't certain.
pub record IsReshown (other : ℕ → Value) (v w : List Written) : Type 0 where
  pub long : length w ≡ length v
  pub same : (place : ℕ) → place < length v → IsSameAt v w place
  pub shows : (place : ℕ) → place < length v → ((written_at w place).mark ≡ Certain → ⊥)
      → (written_at w place).value ≡ other place

-- Lines that yield a waveform for a history yield for another one the waveform that is the same but for what that
-- history shows.
abbrev pub ReshownLaw : Type 0
ReshownLaw = (j : Job) (limits : Limits) (shown other : ℕ → Value) (v w : List Written) (lines : List ALine) → Fits j
    → IsReshown other v w → Yields j limits shown v lines → Yields j limits other w lines

-- There is such a waveform:
abbrev pub reshown_by : Mark → Value → Value → Written
reshown_by Certain value shown = record { value = value; mark = Certain }
reshown_by Unknown value shown = uncertain Unknown shown
reshown_by Undecided value shown = uncertain Undecided shown

abbrev pub reshown_from : (ℕ → Value) → ℕ → List Written → List Written
reshown_from shown n [] = []
reshown_from shown n (written ∷ rest) =
    reshown_by written.mark written.value (shown n) ∷ reshown_from shown (suc n) rest

abbrev pub reshown : (ℕ → Value) → List Written → List Written
reshown shown waveform = reshown_from shown 0 waveform

abbrev pub ReshownThere : Type 0
ReshownThere = (other : ℕ → Value) (waveform : List Written) → IsReshown other waveform (reshown other waveform)
