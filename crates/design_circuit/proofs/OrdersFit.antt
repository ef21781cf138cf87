-- The order of a design lists each net once and behind its arguments.
use Rattle.std.proofs.Common.{◌≡◌, ◌≢◌, ℕ, zero, suc, ◌<◌, ◌≤◌, Bool, true, false, List, [], ◌∷◌, length, take, get_or, slice_index, refl, sym, ap, ◌∙◌, arith, inl, inr, subst, eqb}
use Rattle.std.specs.List.{AllByRecursion, Contains, list_any}
use Rattle.std.proofs.lemmas.Bool.{cases_lt}
use Rattle.std.proofs.lemmas.Bool.Decides.{Decides-eqb, eqb_tells}
use Rattle.std.proofs.lemmas.List.{get_or_default, get_or-take, length-take-le}
use Rattle.std.proofs.lemmas.Map.Made.{IsDistinct-from_AllPairs}
use Rattle.std.proofs.lemmas.Map.Steps.{length-le_from_distinct_below}
use Rattle.design_circuit.specs.Order.{IsOrder, IsOrdering, arguments_of_driver, position_of}
use Rattle.design_circuit.specs.Job.{Job, job_of, driver_in}
use Rattle.design_circuit.specs.Fits.{Fits, StandsBefore}
use Rattle.design_circuit.specs.Design.{FitsDesign}
use Rattle.design_circuit.specs.Stim.{FitsStim}
use Rattle.design_circuit.specs.declared.design.Driver.{Driver}
use Rattle.design_circuit.specs.declared.design.Design.{Design}
use Rattle.design_circuit.specs.declared.stim.Stim.{Stim}
use Rattle.design_circuit.proofs.OrderLemmas.{position_is}

all_by : {A : Type 0} (P Q : A → Type 0) (xs : List A) → ((x : A) → P x → Q x) → AllByRecursion P xs → AllByRecursion Q xs
all_by P Q [] f all = tt
all_by P Q (x ∷ xs) f all = (f x all.0, all_by P Q xs f all.1)

-- what a test finds stands somewhere
place_in : (net : ℕ) (xs : List ℕ) → list_any (eqb net) xs ≡ true → (i : ℕ) × (i < length xs) × (slice_index xs i ≡ net)
place_in net [] found = cc
place_in net (x ∷ xs) found = elim (eqb_tells net x) as (λ _. (i : ℕ) × (i < length (x ∷ xs)) × (slice_index (x ∷ xs) i ≡ net)) [
  | inl p ↦ (0, omega arith, sym p.1)
  | inr p ↦ (let later = place_in net xs (rw p.0 at found) in (suc later.0, omega (arith, later.1), later.2))
]

-- what it doesn't find stands nowhere
nowhere : (net : ℕ) (xs : List ℕ) (i d : ℕ) → list_any (eqb net) xs ≡ false → i < length xs → net ≡ get_or xs i d → ⊥
nowhere net [] i d none within is = omega arith
nowhere net (x ∷ xs) zero d none within is = elim (eqb_tells net x) as (λ _. ⊥) [
  | inl p ↦ (let h = rw p.0 at none in cc)
  | inr p ↦ p.1 is
]
nowhere net (x ∷ xs) (suc i) d none within is = elim (eqb_tells net x) as (λ _. ⊥) [
  | inl p ↦ (let h = rw p.0 at none in cc)
  | inr p ↦ nowhere net xs i d (rw p.0 at none) (omega arith) is
]

-- all that a test finds among numbers below n is below n
found_below : (n : ℕ) (xs : List ℕ) → ((i : ℕ) → i < length xs → slice_index xs i < n) → (q : ℕ) → list_any (eqb q) xs ≡ true → q < n
found_below n xs below q found = let there = place_in q xs found in subst (λ (k : ℕ). k < n) there.2 (below there.0 there.1)

module _ (driver : ℕ → Driver) (width : ℕ) (order : List ℕ) (is : IsOrder driver width order) where
  below : (p : ℕ) → p < length order → slice_index order p < length order
  below p within = let h = (is.next p within).within in let all = is.all in omega (arith, h, all)

  apart : (p q : ℕ) → p < q → q < length order → slice_index order p ≡ slice_index order q → ⊥
  apart p q less within same =
      let long : length (take q order) ≡ q = length-take-le q order (omega arith) in
      let here : Contains (take q order) (slice_index (take q order) p) = (p, omega (arith, long), get_or_default (take q order) p (slice_index (take q order) p) 0 (omega (arith, long))) in
      (is.next q within).unlisted (subst (λ (n : ℕ). Contains (take q order) n) (get_or-take q order p 0 less ∙ same) here)

  once : (p q : ℕ) → p < length order → q < length order → slice_index order p ≡ slice_index order q → p ≡ q
  once p q p_in q_in same = elim (cases_lt p q) as (λ _. p ≡ q) [
    | inl less ↦ absurd (apart p q less q_in same)
    | inr other ↦ elim (cases_lt q p) as (λ _. p ≡ q) [
      | inl less ↦ absurd (apart q p less p_in (sym same))
      | inr equal ↦ omega arith
    ]
  ]

  -- a net behind which all would be listed with it is one too many
  pairs : (net : ℕ) → list_any (eqb net) order ≡ false → (i j d : ℕ) → i < j → j < length (net ∷ order) → get_or (net ∷ order) i d ≢ get_or (net ∷ order) j d
  pairs net none zero zero d less within same = omega arith
  pairs net none zero (suc j) d less within same = nowhere net order j d none (omega arith) same
  pairs net none (suc i) zero d less within same = omega arith
  pairs net none (suc i) (suc j) d less within same =
      apart i j (omega arith) (omega arith) (get_or_default order i 0 d (omega arith) ∙ same ∙ get_or_default order j d 0 (omega arith))

  one_more : (net : ℕ) → net < width → (i : ℕ) → i < length (net ∷ order) → slice_index (net ∷ order) i < width
  one_more net within zero inside = within
  one_more net within (suc i) inside = (is.next i (omega arith)).within

  listed : (net : ℕ) → net < width → (found : Bool) → list_any (eqb net) order ≡ found → (p : ℕ) × (p < length order) × (slice_index order p ≡ net)
  listed net within true found = place_in net order found
  listed net within false none =
      let many = length-le_from_distinct_below (net ∷ order) width (IsDistinct-from_AllPairs Decides-eqb (net ∷ order) (pairs net none)) (found_below width (net ∷ order) (one_more net within)) in
      let all = is.all in
      absurd (omega (arith, many, all))

  -- Each net stands in it once.
  pub order_lists : IsOrdering order
  order_lists = record {
    below = below;
    each = λ net within. listed net (let all = is.all in omega (arith, all)) (list_any (eqb net) order) refl;
    once = once;
  }

  -- Its arguments stand before it.
  pub stands_behind : (j : Job) → j.order ≡ order → j.width ≡ width → (p : ℕ) → p < width → AllByRecursion (StandsBefore j p) (arguments_of_driver (driver (slice_index order p)))
  stands_behind j order_is width_is p within =
      let inside : p < length order = (let all = is.all in omega (arith, all)) in
      all_by (Contains (take p order)) (StandsBefore j p) (arguments_of_driver (driver (slice_index order p))) (stands inside) (is.next p inside).ready
    where
      stands : p < length order → (argument : ℕ) → Contains (take p order) argument → StandsBefore j p argument
      stands inside argument has =
          let long : length (take p order) ≡ p = length-take-le p order (omega arith) in
          let early : has.0 < p = omega (arith, long, has.1) in
          let there : slice_index order has.0 ≡ argument = sym (get_or-take p order has.0 0 early) ∙ get_or_default (take p order) has.0 0 argument has.1 ∙ has.2 in
          let low : slice_index order has.0 < width = (is.next has.0 (omega (arith, early, inside))).within in
          let at : position_of order argument ≡ has.0 = ap (position_of order) (sym there) ∙ position_is order has.0 order_lists (omega (arith, early, inside)) in
          record {
            within = rw (width_is, ← there) low;
            before = rw (order_is, at) early;
          }

-- A design, its order and a stimulus that fit make a job that fits.
pub job_fits : (design : Design) (order : List ℕ) (stim : Stim) → FitsDesign design → IsOrder (driver_in design) (length design.nets) order → FitsStim design stim → 0 < stim.rounds → stim.rounds ≤ 16 → Fits (job_of design order stim)
job_fits design order stim fits is stim_fits some few = record {
  ordering = order_lists (driver_in design) (length design.nets) order is;
  all = is.all;
  arguments = stands_behind (driver_in design) (length design.nets) order is (job_of design order stim) refl refl;
  pins = fits.drivers;
  start = λ net within. stim_fits.no_float net;
  some_round = some;
  few_rounds = few;
  few_nets = fits.few;
  few_places = stim_fits.places;
}
