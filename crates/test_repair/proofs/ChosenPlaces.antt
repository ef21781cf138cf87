-- The places at which a test holds are a filling.
use Rattle.std.proofs.Common.{◌≡◌, ℕ, suc, ◌+◌, ◌<◌, ◌≤◌, Bool, true, false, List, [], ◌∷◌, ◌++◌, if◌then◌else◌, length, map, refl, sym, ap, ◌∙◌, subst, arith}
use Rattle.std.proofs.lemmas.List.{map-append}
use Rattle.std.specs.List.{AllByRecursion}
use Rattle.design_circuit.specs.declared.place.Place.{Place}
use Rattle.design_circuit.specs.Filling.{IsFilling}
use Rattle.design_circuit.specs.Fits.{place_at}
use Rattle.design_circuit.specs.Job.{Job, places_of}
use Rattle.design_circuit.proofs.Numbers.{filling_at}
use Rattle.law_model.specs.Places.{places_where}
use Rattle.law_model.proofs.PlacesWhere.{picked_below, picked_rises}
use Rattle.wave_proved.specs.Contents.{Contents, IsWave, job}

-- The places of the first numbers at which a test holds.
abbrev pub chosen_places : Job → (ℕ → Bool) → ℕ → List Place
chosen_places j test n = map (place_at j) (places_where test n)

-- One number more: its place comes behind the others where the test holds.
with_next : (j : Job) (xs : List ℕ) (n : ℕ) (b : Bool) → b ≡ true
    → map (place_at j) xs ++ place_at j n ∷ [] ≡ map (place_at j) (if b then xs ++ n ∷ [] else xs)
with_next j xs n true h = sym (map-append (place_at j) xs (n ∷ []))
with_next j xs n false h = cc

without_next : (j : Job) (xs : List ℕ) (n : ℕ) (b : Bool) → b ≡ false
    → map (place_at j) xs ≡ map (place_at j) (if b then xs ++ n ∷ [] else xs)
without_next j xs n true h = cc
without_next j xs n false h = refl

pub chosen_more : (j : Job) (test : ℕ → Bool) (n : ℕ) (old new : List Place) (place : Place)
    → old ≡ chosen_places j test n → new ≡ old ++ place ∷ [] → place ≡ place_at j n → test n ≡ true
    → new ≡ chosen_places j test (n + 1)
chosen_more j test n old new place is more at h =
    let next : suc n ≡ n + 1 = omega arith in
    subst (λ (m : ℕ). new ≡ chosen_places j test m) next
    (more ∙ ap (λ (l : List Place). l ++ place ∷ []) is ∙ ap (λ (p : Place). chosen_places j test n ++ p ∷ []) at
    ∙ with_next j (places_where test n) n (test n) h)

pub chosen_same : (j : Job) (test : ℕ → Bool) (n : ℕ) (old new : List Place)
    → old ≡ chosen_places j test n → new ≡ old → test n ≡ false → new ≡ chosen_places j test (n + 1)
chosen_same j test n old new is same h =
    let next : suc n ≡ n + 1 = omega arith in
    subst (λ (m : ℕ). new ≡ chosen_places j test m) next
    (same ∙ is ∙ without_next j (places_where test n) n (test n) h)

all_further : (xs : List ℕ) (n m : ℕ) → n ≤ m → AllByRecursion (λ k. k < n) xs → AllByRecursion (λ k. k < m) xs
all_further [] n m up all = tt
all_further (x ∷ xs) n m up all = (omega (arith, up, all.0), all_further xs n m up all.1)

-- They are a filling of a wave with so many places.
pub chosen_filling : (c : Contents) → IsWave c → (test : ℕ → Bool) (n : ℕ) → n ≡ length c.written
    → (places : List Place) → places ≡ chosen_places (job c) test n → IsFilling (job c) places
chosen_filling c wave test n long places is =
    let fits = wave.fits.fits_job in
    let room : n ≤ places_of (job c) = omega (arith, wave.holds.sound.within, long) in
    let below = all_further (places_where test n) n (places_of (job c)) room (picked_below test n) in
    subst (IsFilling (job c)) (sym is)
    (filling_at (job c) (places_where test n) fits.ordering fits.all below (picked_rises test n))
