-- The lines of a wave are of Line places that are written.
use Rattle.std.proofs.Common.{◌≡◌, ◌∙◌, ℕ, zero, suc, ◌<◌, ◌≤◌, ◌^◌, Bool, true, List, [], ◌∷◌, ◌++◌, length, get_or, map, if◌then◌else◌, refl, sym, ap, subst, arith}
use Rattle.std.specs.List.{AllByRecursion}
use Rattle.std.proofs.lemmas.List.{length-map}
use Rattle.design_circuit.specs.Fits.{place_at}
use Rattle.design_circuit.specs.Job.{places_of}
use Rattle.design_circuit.specs.Waveform.{certain}
use Rattle.design_circuit.specs.declared.place.Place.{Place}
use Rattle.design_circuit.proofs.Numbers.{is_place_at, number_of_place_at}
use Rattle.law_model.specs.Class.{class_of}
use Rattle.law_model.specs.Yields.{is_line, line_places, places_of_lines}
use Rattle.law_model.specs.declared.class.ClassByNumber.{ClassByNumber}
use Rattle.law_model.specs.declared.class.ClassByNumber.TheVariants.{Local, Free, Carried, Line}
use Rattle.law_model.specs.declared.line.Line.{Line as ALine}
use Rattle.law_model.proofs.PlacesWhere.{among_all, in_picked}
use Rattle.wave_proved.specs.Contents.{Contents, IsWave, job}
use Rattle.cert_check.proofs.OwnLines.{picked_few}
use Rattle.cert_export.specs.Adding.{IsLineIn}

line_class : (class : ClassByNumber) → is_line class ≡ true → class ≡ Line
line_class (Local bit) is = cc
line_class Free is = cc
line_class (Carried from inverted) is = cc
line_class Line is = refl

mapped : (P : Place → Type 0) (f : ℕ → Place) (numbers : List ℕ) → AllByRecursion (λ k. P (f k)) numbers → AllByRecursion P (map f numbers)
mapped P f [] all = tt
mapped P f (k ∷ ks) all = (all.0, mapped P f ks all.1)

here : (P : Place → Type 0) (lines : List ALine) (i : ℕ) (d : ALine) → i < length lines → AllByRecursion P (places_of_lines lines) → P (get_or lines i d).place
here P [] i d within all = absurd (omega (arith, within))
here P (l ∷ ls) zero d within all = all.0
here P (l ∷ ls) (suc i) d within all = here P ls i d (omega (arith, within)) all.1

module _ (c : Contents) (wave : IsWave c) where
  test : ℕ → Bool
  test place = is_line (class_of (job c) (certain c.written) place)

  at_number : (k : ℕ) → k < length c.written → test k ≡ true → IsLineIn c (place_at (job c) k)
  unfolding test
  at_number k less is =
      let up = wave.holds.sound.within in
      let within : k < places_of (job c) = omega (arith, less, up) in
      let back = number_of_place_at (job c) k wave.fits.fits_job.ordering wave.fits.fits_job.all within in record {
        reached = record {
          within = is_place_at (job c) k wave.fits.fits_job.ordering wave.fits.fits_job.all within;
          reached = omega (arith, back, less);
        };
        line = ap (λ (n : ℕ). class_of (job c) (certain c.written) n) back ∙ line_class (class_of (job c) (certain c.written) k) is;
      }

  each : AllByRecursion (IsLineIn c) (places_of_lines c.lines)
  unfolding test
  each =
      let numbers = line_places (job c) (certain c.written) (length c.written) in
      let all = among_all (λ (k : ℕ). IsLineIn c (place_at (job c) k)) numbers
      (λ k picked. (let is = in_picked (λ (place : ℕ). is_line (class_of (job c) (certain c.written) place)) (length c.written) k picked in at_number k is.0 is.1)) in
      subst (AllByRecursion (IsLineIn c)) (sym wave.holds.yields.places) (mapped (IsLineIn c) (place_at (job c)) numbers all)

  pub line_in : (i : ℕ) (d : ALine) → i < length c.lines → IsLineIn c (get_or c.lines i d).place
  line_in i d within = here (IsLineIn c) c.lines i d within each

-- There are no more lines than places.
pub few_lines : (c : Contents) → IsWave c → length c.lines < 2 ^ 64
few_lines c wave =
    let numbers = line_places (job c) (certain c.written) (length c.written) in
    let long = sym (length-map c.lines (λ (line : ALine). line.place)) ∙ (ap length wave.holds.yields.places ∙ length-map numbers (place_at (job c))) in
    let few = picked_few (λ place. is_line (class_of (job c) (certain c.written) place)) (length c.written) in
    let within = wave.holds.yields.within in
    let all = wave.fits.fits_job.few_places in
    omega (arith, long, few, within, all)
