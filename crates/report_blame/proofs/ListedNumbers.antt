-- The numbers of the places that two fillings list.
use Rattle.std.proofs.Common.{◌≡◌, ◌≢◌, ℕ, ◌<◌, false, List, [], ◌∷◌, ◌++◌, All, map, refl}
use Rattle.std.specs.List.{AllByRecursion}
use Rattle.std.specs.List.Sorted.{IsNonDecreasing, IsPermutation}
use Rattle.std.proofs.lemmas.Bool.{ne_eqb}
use Rattle.std.proofs.lemmas.List.Elements.{All-append, All-cons, All-head, All-nil, All-tail}
use Rattle.std.proofs.lemmas.List.Sorted.{All-permutation, IsPermutation-sym}
use Rattle.design_circuit.specs.declared.place.Place.{Place}
use Rattle.design_circuit.specs.Filling.{IsFilling, IsPlace, bit_of}
use Rattle.design_circuit.specs.Fits.{Fits}
use Rattle.design_circuit.specs.Job.{Job, number_of, places_of}
use Rattle.design_circuit.proofs.Handed.{number_within}
use Rattle.report_blame.specs.Halves.{AreListed, IsQuiet}

numbers_within : (j : Job) → Fits j → (filling : List Place) → AllByRecursion (IsPlace j) filling
    → All (λ number. number < places_of j) (map (number_of j) filling)
numbers_within j fits [] places = All-nil (λ number. number < places_of j)
numbers_within j fits (p ∷ filling) places =
    All-cons (λ number. number < places_of j) (number_of j p) (map (number_of j) filling)
    (number_within j fits p places.0) (numbers_within j fits filling places.1)

unlisted : (j : Job) (filling : List Place) (k : ℕ) → All (λ number. number ≢ k) (map (number_of j) filling)
    → bit_of j filling k ≡ false
unlisted j [] k none = refl
unlisted j (p ∷ filling) k none =
    let here = All-head (λ number. number ≢ k) (number_of j p) (map (number_of j) filling) none in
    rw (ne_eqb (number_of j p) k here)
    (unlisted j filling k (All-tail (λ number. number ≢ k) (number_of j p) (map (number_of j) filling) none))

both_unlisted : (j : Job) (zeros ones : List Place) (k : ℕ)
    → All (λ number. number ≢ k) (map (number_of j) zeros ++ map (number_of j) ones) → IsQuiet j zeros ones k
both_unlisted j [] ones k none = record { first = refl; second = unlisted j ones k none }
both_unlisted j (p ∷ zeros) ones k none =
    let tail = map (number_of j) zeros ++ map (number_of j) ones in
    let here = All-head (λ number. number ≢ k) (number_of j p) tail none in
    let rest = both_unlisted j zeros ones k (All-tail (λ number. number ≢ k) (number_of j p) tail none) in
    record { first = rw (ne_eqb (number_of j p) k here) rest.first; second = rest.second }

pub are_listed : (j : Job) → Fits j → (zeros ones : List Place) (all numbers : List ℕ) → IsFilling j zeros
    → IsFilling j ones → all ≡ map (number_of j) zeros ++ map (number_of j) ones → IsPermutation all numbers
    → IsNonDecreasing numbers → AreListed j zeros ones numbers
are_listed j fits zeros ones all numbers zero_is one_is is moved up = record {
  within = All-permutation (λ number. number < places_of j) all numbers moved
      (rw is (All-append (λ number. number < places_of j) (map (number_of j) zeros) (map (number_of j) ones)
      (numbers_within j fits zeros zero_is.places) (numbers_within j fits ones one_is.places)));
  ascending = up;
  others = λ k none. both_unlisted j zeros ones k
      (rw is at (All-permutation (λ number. number ≢ k) numbers all (IsPermutation-sym all numbers moved) none));
}
