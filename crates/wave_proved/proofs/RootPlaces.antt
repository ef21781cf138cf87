-- The root of a written place, as a place.
use Rattle.std.proofs.Common.{◌≡◌, ℕ, ◌<◌, ◌≤◌, Bool, length, sym, ap, ◌∙◌, subst, arith}
use Rattle.design_circuit.specs.declared.place.Place.{Place}
use Rattle.design_circuit.specs.Filling.{IsPlace}
use Rattle.design_circuit.specs.Fits.{Fits, place_at}
use Rattle.design_circuit.specs.Job.{number_of, places_of}
use Rattle.design_circuit.proofs.Numbers.{is_place_at, number_of_place_at}
use Rattle.wave_proved.specs.Contents.{Contents, IsWave, job}
use Rattle.wave_proved.specs.Pairs.{IsRootOf, root_in}

pub root_is : (c : Contents) (place found : Place) (number root : ℕ) (inverted : Bool) → IsWave c
    → number ≡ number_of (job c) place → number < length c.written → number < places_of (job c)
    → root ≡ (root_in c number).place → inverted ≡ (root_in c number).inverted → root ≤ number
    → found ≡ place_at (job c) root → IsRootOf c place (found, inverted)
root_is c place found number root inverted wave is written within place_is inverted_is low found_is = record {
  written = record {
    within = subst (IsPlace (job c)) (sym found_is) (is_place_at (job c) root fits.ordering fits.all less);
    written = subst (λ n. n < length c.written) (sym same) deep;
  };
  place = same ∙ (place_is ∙ ap (λ n. (root_in c n).place) is);
  inverted = inverted_is ∙ ap (λ n. (root_in c n).inverted) is;
}
  where
    fits : Fits (job c)
    fits = wave.fits.fits_job

    less : root < places_of (job c)
    less = omega arith

    deep : root < length c.written
    deep = omega arith

    same : number_of (job c) found ≡ root
    same = ap (number_of (job c)) found_is ∙ number_of_place_at (job c) root fits.ordering fits.all less
