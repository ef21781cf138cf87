-- Objections: the next place of a sound waveform is found otherwise than the history knows it.
use Rattle.std.specs.Prelude.{◌≡◌, ℕ, ◌++◌, List, length}
use Rattle.std.specs.List.{AllByRecursion}
use Rattle.design_cell.specs.declared.value.Value.{Value}
use Rattle.design_circuit.specs.declared.waveform.Written.{Written}
use Rattle.design_circuit.specs.Job.{Job}
use Rattle.design_circuit.specs.Fits.{Fits}
use Rattle.design_circuit.specs.Waveform.{ExactBy}
use Rattle.law_model.specs.Growth.{Holds, NextSaid}
use Rattle.law_model.specs.Sound.{IsDecided, IsOptimistic, Sound, SoundBy}
use Rattle.law_model.specs.Yields.{Yields}
use Rattle.law_model.specs.declared.line.Body.{Body}
use Rattle.law_model.specs.declared.line.Body.TheVariants.{Enumerated, Refuted, Pair, Undecided as Budget}
use Rattle.law_model.specs.declared.line.Line.{Line as ALine}
use Rattle.law_model.specs.declared.limits.Limits.{Limits}

-- A body that isn't a licence.
abbrev pub Decides : Body → Type 0
Decides (Enumerated bit) = Unit {0}
Decides (Refuted bit log) = Unit {0}
Decides (Pair first second) = Unit {0}
Decides (Budget log) = ⊥

-- No line has an undecided body.
abbrev pub AllDecide : List ALine → Type 0
AllDecide lines = AllByRecursion (λ (line : ALine). Decides line.body) lines

-- The lines yield no undecided place exactly where none of them has an undecided body.
abbrev pub DecidedLaw : Type 0
DecidedLaw = (j : Job) (limits : Limits) (shown : ℕ → Value) (waveform : List Written) (lines : List ALine)
    → Sound j limits shown waveform lines → AllDecide lines → IsDecided waveform

abbrev pub AllDecideLaw : Type 0
AllDecideLaw = (j : Job) (limits : Limits) (shown : ℕ → Value) (waveform : List Written) (lines : List ALine)
    → Fits j → Yields j limits shown waveform lines → IsDecided waveform → AllDecide lines

-- What is said of the next place of a waveform that is sound and that lines yield is so: it is 0 or 1 and every filling
-- gives it, or it has its two stated fillings, or its licence.
abbrev pub SaidLaw : Type 0
SaidLaw = (j : Job) (limits : Limits) (shown : ℕ → Value) (waveform : List Written) (lines : List ALine)
    → (found : Written) (new : List ALine)
    → Fits j → Holds j limits shown waveform lines → NextSaid j limits shown waveform found new
    → SoundBy j limits waveform (lines ++ new) (length waveform) found.mark found.value

-- An objection: a list of lines that has a sound waveform up to a place, where its class, or a line whose body holds,
-- says what contradicts the history.
pub record Objects (j : Job) (limits : Limits) (shown : ℕ → Value) (waveform : List Written) (lines : List ALine)
    (found : Written) : Type 0 where
  pub sound : Sound j limits shown waveform lines
  pub new : List ALine
  pub said : NextSaid j limits shown waveform found new
  pub optimistic : IsOptimistic found.mark found.value (shown (length waveform))

-- An objection is exact: every filling gives what is found, or two fillings give 0 and 1.
abbrev pub ObjectionLaw : Type 0
ObjectionLaw = (j : Job) (limits : Limits) (shown : ℕ → Value) (waveform : List Written) (lines : List ALine)
    → (found : Written) → Fits j → Objects j limits shown waveform lines found
    → ExactBy j waveform (length waveform) found.mark found.value

-- Objections are one: lists of lines without an undecided body that object for one history, whatever their limits, do
-- so at the same place and find the same there.
abbrev pub OneObjection : Type 0
OneObjection = (j : Job) (limits bounds : Limits) (shown : ℕ → Value) (v w : List Written) (lines more : List ALine)
    → (found other : Written) → Fits j → Objects j limits shown v lines found → Objects j bounds shown w more other
    → AllDecide lines → AllDecide more → (length v ≡ length w) × (found ≡ other)
