-- What an audit tells.
use Rattle.std.specs.Prelude.{◌≡◌, ◌↔◌, ℕ, zero, suc, ◌+◌, Bool, true, List, [], ◌∷◌, ◌++◌, IfSome, IsSome}
use Rattle.std.specs.Prelude.{if◌then◌else◌}
use Rattle.design_circuit.specs.declared.place.Place.{Place}
use Rattle.design_circuit.specs.Filling.{IsPlace}
use Rattle.design_circuit.specs.Fits.{IsPlain, place_at}
use Rattle.design_circuit.specs.History.{HistoryView}
use Rattle.design_circuit.specs.Job.{Job}
use Rattle.design_circuit.specs.Waveform.{certain_by}
use Rattle.report_bits.specs.Counts.{one_if}
use Rattle.wave_proved.specs.Contents.{Contents, job, written_of}
use Rattle.wave_proved.specs.Pairs.{GiveBoth, IsUnknown}
use Rattle.report_audit.specs.Listed.{is_listed, is_open, is_origin, replayed_at}
use Rattle.report_audit.specs.Row.{IsRowTold}
use Rattle.report_audit.specs.declared.found.Found.{Found}

-- A listed place is told with what the replay shows and what is found there, x where it is unknown, and then with two
-- fillings that give both bits; an origin with its row.
pub record IsFoundPlace (c : Contents) (replay : HistoryView) (place : Place) (found : Found) : Type 0 where
  pub place_is : found.place ≡ place
  pub replayed_is : found.replayed ≡ replayed_at replay place
  pub found_is : found.found ≡ certain_by (written_of c place).mark (written_of c place).value
  pub has_pair : IsSome found.pair ↔ IsUnknown c place
  pub pair : IfSome found.pair (GiveBoth c place)
  pub origin : found.origin ≡ is_origin c replay place
  pub row : IsRowTold found.origin (job c) replay place found.row

-- Each of some places is told, in order, and nothing else is.
abbrev pub AreFound : Contents → HistoryView → List Place → List Found → Type 0
AreFound c replay [] [] = Unit {0}
AreFound c replay (place ∷ places) (found ∷ others) =
    IsFoundPlace c replay place found × AreFound c replay places others
AreFound c replay [] (found ∷ others) = ⊥
AreFound c replay (place ∷ places) [] = ⊥

-- The listed places among the first n, in place order, and how many of them are open.
abbrev pub listed_if : Bool → Place → List Place
listed_if listed place = if listed then place ∷ [] else []

abbrev pub listed_below : Contents → HistoryView → ℕ → List Place
listed_below c replay zero = []
listed_below c replay (suc n) = listed_below c replay n
    ++ listed_if (is_listed c replay (place_at (job c) n)) (place_at (job c) n)

abbrev pub open_below : Contents → HistoryView → ℕ → ℕ
open_below c replay zero = 0
open_below c replay (suc n) = open_below c replay n + one_if (is_open c replay (place_at (job c) n))

-- Some places are told behind what was told before.
abbrev pub Adds : Contents → HistoryView → List Found → List Place → List Found → Type 0
Adds c replay old places new =
    (before : List Place) → AreFound c replay before old → AreFound c replay (before ++ places) new

-- An origin is driven by a primitive.
abbrev pub IsDriven : Job → Found → Type 0
IsDriven j found = found.origin ≡ true → IsPlain (j.driver found.place.net) → ⊥

-- It is told of a place of the job.
abbrev pub HasPlace : Job → Found → Type 0
HasPlace j found = IsPlace j found.place
