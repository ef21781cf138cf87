-- What is told is at places of the job, and its origins are driven by primitives.
use Rattle.std.proofs.Common.{◌≡◌, ℕ, zero, suc, ◌≤◌, Bool, true, false, not, List, [], ◌∷◌, ◌++◌, refl, sym, ◌∙◌, subst, arith}
use Rattle.std.proofs.lemmas.Bool.{and_parts}
use Rattle.std.specs.List.{AllByRecursion, list_any}
use Rattle.design_circuit.specs.declared.place.Place.{Place}
use Rattle.design_circuit.specs.Filling.{IsPlace}
use Rattle.design_circuit.specs.Fits.{Fits, IsPlain, place_at}
use Rattle.design_circuit.specs.History.{HistoryView}
use Rattle.design_circuit.specs.Job.{places_of}
use Rattle.design_circuit.proofs.Numbers.{is_place_at}
use Rattle.wave_proved.specs.Contents.{Contents, IsWave, job}
use Rattle.report_audit.specs.Found.{AreFound, HasPlace, IsDriven, IsFoundPlace, listed_below, listed_if}
use Rattle.report_audit.specs.Listed.{IsAudit, is_listed, is_suspect, replay_arguments}
use Rattle.report_audit.specs.declared.found.Found.{Found}
use Rattle.report_audit.proofs.Origins.{origin_driven}

is_false : (b : Bool) → not b ≡ true → b ≡ false
is_false true is = cc
is_false false is = refl

all_behind : {X : Type 0} (P : X → Type 0) (xs ys : List X) → AllByRecursion P xs → AllByRecursion P ys
    → AllByRecursion P (xs ++ ys)
all_behind P [] ys first second = second
all_behind P (x ∷ xs) ys first second = (first.0, all_behind P xs ys first.1 second)

all_if : (P : Place → Type 0) (listed : Bool) (place : Place) → P place → AllByRecursion P (listed_if listed place)
all_if P true place is = (is, tt)
all_if P false place is = tt

module _ (c : Contents) (replayed : HistoryView) where
  places_below : Fits (job c) → (n : ℕ) → n ≤ places_of (job c) → AllByRecursion (IsPlace (job c)) (listed_below c replayed n)
  places_below fits zero up = tt
  places_below fits (suc n) up =
      let place = place_at (job c) n in
      all_behind (IsPlace (job c)) (listed_below c replayed n) (listed_if (is_listed c replayed place) place)
      (places_below fits n (omega (arith, up)))
      (all_if (IsPlace (job c)) (is_listed c replayed place) place
      (is_place_at (job c) n fits.ordering fits.all (omega (arith, up))))

  told_at_places : (places : List Place) (listed : List Found) → AllByRecursion (IsPlace (job c)) places
      → AreFound c replayed places listed → AllByRecursion (HasPlace (job c)) listed
  told_at_places [] [] within are = tt
  told_at_places [] (found ∷ listed) within are = absurd are
  told_at_places (place ∷ places) [] within are = absurd are
  told_at_places (place ∷ places) (found ∷ listed) within are =
      (subst (IsPlace (job c)) (sym are.0.place_is) within.0, told_at_places places listed within.1 are.1)

  -- Each listed place that is told is a place of the job.
  pub told_within : IsWave c → (listed : List Found) → AreFound c replayed (listed_below c replayed (places_of (job c))) listed
      → AllByRecursion (HasPlace (job c)) listed
  told_within wave listed are =
      told_at_places (listed_below c replayed (places_of (job c))) listed
      (places_below wave.fits.fits_job (places_of (job c)) (omega arith)) are

  driven_by : IsWave c → IsAudit c replayed → (place : Place) (found : Found) → IsPlace (job c) place
      → IsFoundPlace c replayed place found → IsDriven (job c) found
  driven_by wave audit place found is told origin plain =
      let parts = and_parts (is_listed c replayed place)
      (not (list_any (is_suspect c replayed) (replay_arguments (job c) place))) (sym told.origin ∙ origin) in
      origin_driven c replayed wave audit place is parts.0
      (is_false (list_any (is_suspect c replayed) (replay_arguments (job c) place)) parts.1)
      (subst (λ (p : Place). IsPlain ((job c).driver p.net)) told.place_is plain)

  all_driven : IsWave c → IsAudit c replayed → (places : List Place) (listed : List Found)
      → AllByRecursion (IsPlace (job c)) places → AreFound c replayed places listed → AllByRecursion (IsDriven (job c)) listed
  all_driven wave audit [] [] within are = tt
  all_driven wave audit [] (found ∷ listed) within are = absurd are
  all_driven wave audit (place ∷ places) [] within are = absurd are
  all_driven wave audit (place ∷ places) (found ∷ listed) within are =
      (driven_by wave audit place found within.0 are.0, all_driven wave audit places listed within.1 are.1)

  -- Each origin that is told is driven by a primitive.
  pub told_driven : IsWave c → IsAudit c replayed → (listed : List Found)
      → AreFound c replayed (listed_below c replayed (places_of (job c))) listed → AllByRecursion (IsDriven (job c)) listed
  told_driven wave audit listed are =
      all_driven wave audit (listed_below c replayed (places_of (job c))) listed
      (places_below wave.fits.fits_job (places_of (job c)) (omega arith)) are
