-- The moments of a recording, and the value of a bit in each, by what its text says (IEEE 1364-2005, clause 18). A
-- moment is told by its time.
use Rattle.std.specs.Prelude.{◌≡◌, ℕ, ◌<◌, ◌↔◌, List, [], ◌∷◌, bytes_eq, length, slice_index, slice_index_or}
use Rattle.std.specs.Prelude.{if◌then◌else◌}
use Rattle.std.specs.List.{Contains}
use Rattle.std.specs.List.Sorted.{IsStrictlyIncreasing}
use Rattle.recording_reader.specs.Recording.{Recording, value_at, width_at}
use Rattle.recording_reader.specs.Words.{Word, words_of}
use Rattle.recording_changes.specs.Held.{Change, change}
use Rattle.recording_changes.specs.Last.{IsLastValue}
use Rattle.recording_laws.specs.Body.{BodyItem, BodyItems}
use Rattle.recording_laws.specs.Body.BodyItem.{at, takes}
use Rattle.recording_laws.specs.Codes.{CodedVariable, DeclaresCodes, coded}

-- the times that stand in the text
abbrev pub times_in : List BodyItem → List ℕ
times_in [] = []
times_in (at time ∷ items) = time ∷ times_in items
times_in (takes code digits ∷ items) = times_in items

-- The times of moments as the text says them. Changes before the first time belong to time 0, and with no time at all
-- there is one moment, at 0.
abbrev pub times_said : List BodyItem → List ℕ
times_said [] = 0 ∷ []
times_said (at time ∷ items) = time ∷ times_in items
times_said (takes code digits ∷ items) = 0 ∷ times_in items

-- Each time that is said has one moment, in order of time.
pub record AreMoments (said times : List ℕ) : Type 0 where
  pub ascending : IsStrictlyIncreasing times
  pub each : (time : ℕ) → Contains times time ↔ Contains said time

-- The changes of a code, each at the last time before it, or at this time where none stands before it.
abbrev pub changes_from : ℕ → List ℕ → List BodyItem → List Change
changes_from now code [] = []
changes_from now code (at time ∷ items) = changes_from time code items
changes_from now code (takes other digits ∷ items) =
    if bytes_eq code other then change now digits ∷ changes_from now code items else changes_from now code items

-- Changes before the first time are at 0.
abbrev pub changes_by_time : List ℕ → List BodyItem → List Change
changes_by_time code items = changes_from 0 code items

-- the variable with this number
abbrev pub coded_at : List CodedVariable → ℕ → CodedVariable
coded_at vs variable = slice_index_or vs variable (coded [] 0)

-- What the text says of times and values, and this recording has. A bit has in a moment the value that the last change
-- of its variable's code at the moment's time or before it gives it, extended on the left, and x before any change.
pub record IsSaid (text : List ℕ) (r : Recording) : Type 0 where
  pub listed : List CodedVariable
  pub behind : List Word
  pub declared : DeclaresCodes (words_of text) listed behind
  pub items : List BodyItem
  pub read : BodyItems listed behind items
  pub moments : AreMoments (times_said items) r.times
  pub variables : length r.variables ≡ length listed
  pub widths : (variable : ℕ) → variable < length listed → width_at r variable ≡ (coded_at listed variable).width
  pub values : (variable bit moment : ℕ)
      → variable < length listed → bit < width_at r variable → moment < length r.times
      → IsLastValue (changes_by_time (coded_at listed variable).code items) (width_at r variable) bit
      (slice_index r.times moment) (value_at r variable bit moment)
