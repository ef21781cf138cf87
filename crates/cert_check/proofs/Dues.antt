-- Which place a line names, by the number of its place.
use Rattle.std.proofs.Common.{◌≡◌, ℕ, ◌<◌, sym, subst, ap, ◌∙◌, arith}
use Rattle.std.specs.Prelude.{◌+◌, ◌*◌}
use Rattle.design_circuit.proofs.Numbers.{number_of_place_at}
use Rattle.design_circuit.proofs.PlaceNumbers.{place_back}
use Rattle.design_circuit.specs.Filling.{IsPlace}
use Rattle.design_circuit.specs.Fits.{place_at}
use Rattle.design_circuit.specs.Job.{Job, number_of}
use Rattle.law_model.specs.declared.line.Line.{Line as ALine}
use Rattle.wave_proved.specs.Contents.{Contents, IsWave, job, next_number}
use Rattle.wave_proved.specs.Token.{HasNext}
use Rattle.law_along.specs.Accepted.{IsLater, NamesNext}

number_is : (c : Contents) (line : ALine) (j : Job) (number : ℕ) → j ≡ job c → number ≡ number_of j line.place
    → number ≡ number_of (job c) line.place
number_is c line j number is n = n ∙ ap (λ (i : Job). number_of i line.place) is

-- A line of a place of the next number names the next place,
pub named_here : (c : Contents) (line : ALine) (j : Job) (number count : ℕ) → IsWave c → j ≡ job c → IsPlace j line.place
    → number ≡ number_of j line.place → count ≡ next_number c → number ≡ count → NamesNext c line
named_here c line j number count wave is place number_of_it count_is same =
    let place_c : IsPlace (job c) line.place = subst (λ (i : Job). IsPlace i line.place) is place in
    sym (place_back (job c) wave.fits.fits_job line.place place_c)
    ∙ ap (place_at (job c)) (sym (number_is c line j number is number_of_it) ∙ (same ∙ count_is))

-- and one of an earlier place neither that one nor a later.
pub named_before : (c : Contents) (line : ALine) (j : Job) (number count : ℕ) → IsWave c → HasNext c → j ≡ job c
    → number ≡ number_of j line.place → count ≡ next_number c → number < count
    → (NamesNext c line → ⊥) × (IsLater c line → ⊥)
named_before c line j number count wave next is number_of_it count_is less =
    let n = number_is c line j number is number_of_it in
    let fits = wave.fits.fits_job in (
      λ names. let back = ap (number_of (job c)) names ∙ number_of_place_at (job c) (next_number c) fits.ordering fits.all next in
          absurd (omega (arith, n, back, count_is, less)),
      λ later. let more = later.later in absurd (omega (arith, n, more, count_is, less)),
    )
