-- The audit: the places that a history knows and that a waveform, sound for another history, has otherwise, are those
-- that lists of lines meet.
use Rattle.std.specs.Prelude.{◌≡◌, ℕ, ◌<◌, ◌↔◌, ◌++◌, List, length}
use Rattle.design_cell.specs.declared.value.Value.{Value}
use Rattle.design_circuit.specs.declared.waveform.Written.{Written}
use Rattle.design_circuit.specs.Job.{Job, places_of}
use Rattle.design_circuit.specs.Fits.{Fits}
use Rattle.law_model.specs.Growth.{Holds, NextSaid}
use Rattle.law_model.specs.Laws.{IsSameAt}
use Rattle.law_model.specs.Sound.{IsDecided, IsOptimistic, IsOptimisticAt}
use Rattle.law_model.specs.Yields.{Yields}
use Rattle.law_model.specs.declared.line.Line.{Line as ALine}
use Rattle.law_model.specs.declared.limits.Limits.{Limits}
use Rattle.law_waveforms.specs.Objection.{AllDecide, Objects}

-- A place is listed where the history knows it, and it is certain with another value, or unknown.
pub record IsListed (shown : ℕ → Value) (waveform : List Written) (place : ℕ) : Type 0 where
  pub within : place < length waveform
  pub otherwise : IsOptimisticAt shown waveform place

-- It is the first one listed.
pub record IsFirst (shown : ℕ → Value) (waveform : List Written) (place : ℕ) : Type 0 where
  pub listed : IsListed shown waveform place
  pub none : (k : ℕ) → k < place → IsListed shown waveform k → ⊥

-- A list of lines without an undecided body yields, for a history, a waveform whose first optimistic place this is.
pub record MeetsFirst (j : Job) (shown : ℕ → Value) (lines : List ALine) (place : ℕ) : Type 0 where
  pub decide : AllDecide lines
  pub limits : Limits
  pub waveform : List Written
  pub yields : Yields j limits shown waveform lines
  pub first : IsFirst shown waveform place

-- A waveform of the whole job, sound for a history (the blank one, in an audit), in which nothing is undecided.
pub record IsAudited (j : Job) (waveform : List Written) (lines : List ALine) : Type 0 where
  pub limits : Limits
  pub shown : ℕ → Value
  pub holds : Holds j limits shown waveform lines
  pub whole : length waveform ≡ places_of j
  pub decided : IsDecided waveform

-- Each list of lines without an undecided body that meets an optimistic place for a history meets its first one at the
-- first place that the audit lists for it,
abbrev pub FirstListed : Type 0
FirstListed = (j : Job) (shown : ℕ → Value) (waveform : List Written) (lines more : List ALine) (place : ℕ)
    → Fits j → IsAudited j waveform lines → MeetsFirst j shown more place → IsFirst shown waveform place

-- and so does each that objects.
abbrev pub ObjectionListed : Type 0
ObjectionListed = (j : Job) (limits : Limits) (shown : ℕ → Value) (waveform front : List Written)
    → (lines more : List ALine)
    → (found : Written) → Fits j → IsAudited j waveform lines → Objects j limits shown front more found → AllDecide more
    → IsFirst shown waveform (length front)

-- There is such a list exactly where the audit lists a place.
abbrev pub SomeListed : Type 0
SomeListed = (j : Job) (shown : ℕ → Value) (waveform : List Written) (lines : List ALine)
    → Fits j → IsAudited j waveform lines
    → ((place : ℕ) × IsListed shown waveform place)
    ↔ ((more : List ALine) × (place : ℕ) × MeetsFirst j shown more place)

-- All lists of lines without an undecided body meet their first optimistic place for a history at the same place, and
-- have the same there.
abbrev pub MeetOnce : Type 0
MeetOnce = (j : Job) (shown : ℕ → Value) (lines more : List ALine) (place other : ℕ) → Fits j
    → (first : MeetsFirst j shown lines place) (second : MeetsFirst j shown more other)
    → (place ≡ other) × IsSameAt first.waveform second.waveform place

-- An objection over a waveform that lines yield is met: with its line they yield the waveform up to and with the place.
abbrev pub ObjectionMet : Type 0
ObjectionMet = (j : Job) (limits : Limits) (shown : ℕ → Value) (front : List Written) (lines new : List ALine)
    → (found : Written) → Fits j → Holds j limits shown front lines → NextSaid j limits shown front found new
    → IsOptimistic found.mark found.value (shown (length front)) → AllDecide lines
    → MeetsFirst j shown (lines ++ new) (length front)
