-- Places of copies: each has what its argument's place has.
use Rattle.std.specs.Prelude.{◌≡◌, ℕ, ◌+◌, ◌<◌, Bool, List, length}
use Rattle.design_cell.specs.declared.value.Value.{Value}
use Rattle.design_circuit.specs.declared.waveform.Written.{Written}
use Rattle.design_circuit.specs.Fits.{Fits}
use Rattle.design_circuit.specs.Handed.{IsHandedIn, shown_of}
use Rattle.design_circuit.specs.History.{HistoryView}
use Rattle.design_circuit.specs.Job.{Job, net_of, places_of, step_of}
use Rattle.design_circuit.specs.Waveform.{written_at}
use Rattle.law_model.specs.Class.{class_of, keeps}
use Rattle.law_model.specs.Growth.{Holds}
use Rattle.law_model.specs.declared.line.Line.{Line as ALine}
use Rattle.law_model.specs.declared.limits.Limits.{Limits}
use Rattle.wave_class.specs.Facts.{AgreeBefore}
use Rattle.wave_class.specs.Wires.{CopiesFrom}

-- The net of a place keeps there.
abbrev pub place_keeps : Job → (ℕ → Value) → ℕ → Bool
place_keeps j certain place = keeps j certain (class_of j certain) (step_of j place) (net_of j place)

-- A copy has the certain value of its argument, and its net keeps where that of its argument does.
pub record IsCopied (j : Job) (certain : ℕ → Value) (place from : ℕ) : Type 0 where
  pub value : certain place ≡ certain from
  pub keeps : place_keeps j certain place ≡ place_keeps j certain from

abbrev pub CopyLaw : Type 0
CopyLaw = (j : Job) (certain : ℕ → Value) (place from : ℕ) → Fits j → place < places_of j
    → AgreeBefore j certain (place + 1) → CopiesFrom j place from → IsCopied j certain place from

-- Each copy of a waveform has what its argument's place has.
abbrev pub CopiesAgree : Job → List Written → Type 0
CopiesAgree j waveform =
    (place from : ℕ) → place < length waveform → CopiesFrom j place from
    → written_at waveform place ≡ written_at waveform from

-- At a copy is shown what is shown at its argument.
abbrev pub CopiesShow : Job → (ℕ → Value) → Type 0
CopiesShow j shown = (place from : ℕ) → place < places_of j → CopiesFrom j place from → shown place ≡ shown from

-- So it is in what is handed in as a history,
abbrev pub HandedCopiesLaw : Type 0
HandedCopiesLaw = (j : Job) (history : HistoryView) → Fits j → IsHandedIn j history
    → CopiesShow j (shown_of j history)

-- and in each waveform that lines justify over such a history.
abbrev pub CopiesLaw : Type 0
CopiesLaw = (j : Job) (limits : Limits) (shown : ℕ → Value) (waveform : List Written) (lines : List ALine) → Fits j
    → Holds j limits shown waveform lines → CopiesShow j shown → CopiesAgree j waveform
