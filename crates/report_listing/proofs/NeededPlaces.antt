-- The places of a condition are written.
use Rattle.std.proofs.Common.{◌≡◌, ℕ, ◌<◌, true, List, [], ◌∷◌, length, map, sym, subst, arith}
use Rattle.std.specs.List.{AllByRecursion}
use Rattle.design_circuit.specs.Fits.{place_at}
use Rattle.design_circuit.specs.Job.{places_of}
use Rattle.design_circuit.specs.Waveform.{certain}
use Rattle.design_circuit.proofs.Numbers.{is_place_at, number_of_place_at}
use Rattle.law_model.specs.Places.{among}
use Rattle.law_model.proofs.PlacesWhere.{among_all}
use Rattle.wave_proved.specs.Contents.{Contents, IsWave, IsWritten, job}
use Rattle.cert_condition.specs.View.{ConditionView, current_list}
use Rattle.cert_condition.proofs.NextTurns.{condition_holds}
use Rattle.cert_condition.proofs.TurnChoices.{boundary_low, listed_beside}
use Rattle.report_listing.specs.Conditions.{IsSomeCondition}

-- A place by its number.
record IsNumber (c : Contents) (k : ℕ) : Type 0 where
  within : k < places_of (job c)
  written : k < length c.written

written_at_number : (c : Contents) (k : ℕ) → IsWave c → IsNumber c k → IsWritten c (place_at (job c) k)
written_at_number c k wave is = record {
  within = is_place_at (job c) k wave.fits.fits_job.ordering wave.fits.fits_job.all is.within;
  written = subst (λ n. n < length c.written)
      (sym (number_of_place_at (job c) k wave.fits.fits_job.ordering wave.fits.fits_job.all is.within)) is.written;
}

written_at_numbers : (c : Contents) (ks : List ℕ) → IsWave c → AllByRecursion (IsNumber c) ks
    → AllByRecursion (IsWritten c) (map (place_at (job c)) ks)
written_at_numbers c [] wave all = tt
written_at_numbers c (k ∷ ks) wave all = (written_at_number c k wave all.0, written_at_numbers c ks wave all.1)

pub place_written : (c : Contents) (view : ConditionView) → IsSomeCondition c view → IsWritten c view.place
place_written c view (root, is) =
    subst (IsWritten c) (sym is.place)
    (written_at_number c root is.wave (record { within = is.has.within; written = is.has.written }))

pub listed_written : (c : Contents) (view : ConditionView) → IsSomeCondition c view
    → AllByRecursion (IsWritten c) view.listed
listed_written c view (root, is) =
    subst (AllByRecursion (IsWritten c)) (sym is.listed)
    (written_at_numbers c listed is.wave (among_all (IsNumber c) listed each))
  where
    listed : List ℕ
    listed = current_list c root view.turns

    each : (k : ℕ) → among listed k ≡ true → IsNumber c k
    each k at =
        let low = boundary_low (job c) (certain c.written) root k
        (listed_beside (job c) (certain c.written) root k ((condition_holds c root view is).places k at)) in
        let within = is.has.within in
        let written = is.has.written in
        record { within = omega (arith, low, within); written = omega (arith, low, written) }
