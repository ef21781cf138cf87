-- What the listed places are in words of laws: where nothing is undecided, the first one is that which lists of lines
-- meet.
use Rattle.std.specs.Prelude.{◌≡◌, ◌↔◌, ℕ, ◌<◌, true, List, [], ◌∷◌, length}
use Rattle.design_circuit.specs.declared.place.Place.{Place}
use Rattle.design_circuit.specs.Filling.{IsPlace}
use Rattle.design_circuit.specs.Handed.{shown_of}
use Rattle.design_circuit.specs.History.{HistoryView}
use Rattle.design_circuit.specs.Job.{Job, number_of}
use Rattle.law_waveforms.specs.Audit.{IsListed, MeetsFirst}
use Rattle.law_model.specs.Sound.{IsDecided}
use Rattle.law_model.specs.declared.line.Line.{Line as ALine}
use Rattle.wave_proved.specs.Contents.{Contents, IsWave, job}
use Rattle.report_audit.specs.Listed.{IsAudit, is_listed}
use Rattle.report_audit.specs.declared.found.Found.{Found}

-- The test of a listed place passes exactly where the place is listed.
abbrev pub ListedLaw : Type 0
ListedLaw = (c : Contents) (replay : HistoryView) (place : Place) → IsWave c → IsAudit c replay → IsPlace (job c) place
    → (is_listed c replay place ≡ true) ↔ IsListed (shown_of (job c) replay) c.written (number_of (job c) place)

-- The first of the listed places is that of a number.
abbrev pub BeginsAt : Job → List Found → ℕ → Type 0
BeginsAt j [] number = ⊥
BeginsAt j (found ∷ others) number = number_of j found.place ≡ number

-- Each list of lines without an undecided body that meets an optimistic place for the replay meets its first one at the
-- first listed place, and there is such a list exactly where a place is listed.
pub record AreMetFirst (j : Job) (replay : HistoryView) (listed : List Found) : Type 0 where
  pub first : (lines : List ALine) (number : ℕ) → MeetsFirst j (shown_of j replay) lines number
      → BeginsAt j listed number
  pub some : (0 < length listed) ↔ ((lines : List ALine) × (number : ℕ) × MeetsFirst j (shown_of j replay) lines number)

abbrev pub MeetFirst : Contents → HistoryView → List Found → Type 0
MeetFirst c replay listed = IsDecided c.written → AreMetFirst (job c) replay listed
