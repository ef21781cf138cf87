-- The filling that gives the sources of a cone their bits.
use Rattle.std.proofs.Common.{◌≡◌, ℕ, ◌+◌, ◌<◌, ◌&&◌, Bool, true, false, sym, ◌∙◌, arith, ⊎_elim}
use Rattle.std.specs.List.{AllByRecursion}
use Rattle.std.proofs.lemmas.Bool.{cases_Bool, and_parts, and_from}
use Rattle.design_cell.specs.declared.value.Value.{Value}
use Rattle.design_circuit.specs.Job.{Job, places_of}
use Rattle.design_circuit.specs.Filling.{IsFilling, bit_of}
use Rattle.design_circuit.specs.Fits.{Fits}
use Rattle.design_circuit.proofs.Numbers.{filling_at, bit_of_at}
use Rattle.law_model.specs.Places.{among, places_where}
use Rattle.law_model.specs.Cone.{in_cone, reads_filling, is_source, sources, source_filling}
use Rattle.law_model.proofs.Cones.{cone_within}
use Rattle.law_model.proofs.PlacesWhere.{picked_in, in_picked, picked_rises, among_all}

low_places : (j : Job) (test : ℕ → Bool) (root : ℕ) → root < places_of j
    → AllByRecursion (λ k. k < places_of j) (places_where test (root + 1))
low_places j test root within = among_all (λ k. k < places_of j) (places_where test (root + 1))
    (λ k h. (let low = (in_picked test (root + 1) k h).0 in omega (arith, low, within)))

pub source_filling_is : (j : Job) → Fits j → (c : ℕ → Value) (root : ℕ) (bits : ℕ → Bool) → root < places_of j
    → IsFilling j (source_filling j c root bits)
source_filling_is j fits c root bits within =
    let test : ℕ → Bool = λ place. is_source j c root place && bits place in
    filling_at j (places_where test (root + 1)) fits.ordering fits.all (low_places j test root within)
    (picked_rises test (root + 1))

source_listed : (j : Job) → Fits j → (c : ℕ → Value) (root : ℕ) (bits : ℕ → Bool) (k : ℕ) → root < places_of j
    → bit_of j (source_filling j c root bits) k ≡ among
    (places_where (λ place. is_source j c root place && bits place) (root + 1)) k
source_listed j fits c root bits k within =
    let test : ℕ → Bool = λ place. is_source j c root place && bits place in
    bit_of_at j (places_where test (root + 1)) k fits.ordering fits.all (low_places j test root within)

-- It lists sources alone.
pub sources_alone : (j : Job) → Fits j → (c : ℕ → Value) (root : ℕ) (bits : ℕ → Bool) (k : ℕ) → root < places_of j
    → bit_of j (source_filling j c root bits) k ≡ true → is_source j c root k ≡ true
sources_alone j fits c root bits k within listed =
    let test : ℕ → Bool = λ place. is_source j c root place && bits place in
    (and_parts (is_source j c root k) (bits k)
    (in_picked test (root + 1) k (sym (source_listed j fits c root bits k within) ∙ listed)).1).0

-- Each source has its bit.
pub source_given : (j : Job) → Fits j → (c : ℕ → Value) (root : ℕ) (bits : ℕ → Bool) (k : ℕ) → root < places_of j
    → is_source j c root k ≡ true → bit_of j (source_filling j c root bits) k ≡ bits k
source_given j fits c root bits k within source =
    source_listed j fits c root bits k within
    ∙ ⊎_elim (λ (one : bits k ≡ true). (picked_in test (root + 1) k low
    (and_from (is_source j c root k) (bits k) source one) ∙ sym one))
    (λ (other : bits k ≡ false). (unlisted other ∙ sym other)) (cases_Bool (bits k))
  where
    test : ℕ → Bool
    test place = is_source j c root place && bits place

    inside : in_cone j c root k ≡ true
    inside = (and_parts (in_cone j c root k) (reads_filling j c k) source).0

    low : k < root + 1
    low = (let up = cone_within j fits c root k within inside in omega (arith, up))

    unlisted : bits k ≡ false → among (places_where test (root + 1)) k ≡ false
    unlisted other = ⊎_elim (λ (h : among (places_where test (root + 1)) k ≡ true).
        (let one : bits k ≡ true = (and_parts (is_source j c root k) (bits k)
        (in_picked test (root + 1) k h).1).1 in let e : true ≡ false = sym one ∙ other in cc))
        (λ (h : among (places_where test (root + 1)) k ≡ false). h)
        (cases_Bool (among (places_where test (root + 1)) k))

-- A source stands in the list of the sources.
pub source_among : (j : Job) → Fits j → (c : ℕ → Value) (root k : ℕ) → root < places_of j → is_source j c root k ≡ true
    → among (sources j c root) k ≡ true
source_among j fits c root k within source =
    let inside : in_cone j c root k ≡ true = (and_parts (in_cone j c root k) (reads_filling j c k) source).0 in
    let up = cone_within j fits c root k within inside in
    picked_in (is_source j c root) (root + 1) k (omega (arith, up)) source
