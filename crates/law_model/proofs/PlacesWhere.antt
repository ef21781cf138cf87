-- Lists of the places at which a test holds.
use Rattle.std.proofs.Common.{◌≡◌, ℕ, zero, suc, ◌+◌, ◌<◌, ◌==◌, ◌||◌, Bool, true, false, List, [], ◌∷◌, ◌++◌, length, refl, sym, ap, ◌∙◌, arith, length-append, if◌then◌else◌, inl, inr, ◌⊎◌, ⊎_elim, subst, slice_index_or, Contains}
use Rattle.std.specs.List.{AllByRecursion, list_any}
use Rattle.std.specs.List.Sorted.{IsStrictlyIncreasing}
use Rattle.std.proofs.Math.ListN.{get_or-append}
use Rattle.std.proofs.Math.Seq.{get_or-append_seam}
use Rattle.std.proofs.lemmas.Bool.{or_cases, eqb-true, eq-eqb, cases_eq}
use Rattle.std.proofs.lemmas.List.Folds.{list_any-append}
use Rattle.law_model.specs.Places.{among, places_where}
use Rattle.law_model.proofs.Classes.{in_front, behind}

pub or_left : (a b : Bool) → a ≡ true → a || b ≡ true
or_left a b h = rw h refl

pub or_right : (a b : Bool) → b ≡ true → a || b ≡ true
or_right false b h = h
or_right true b h = refl

pub among_itself : (place : ℕ) (places : List ℕ) → among (place ∷ places) place ≡ true
among_itself place places = or_left (place == place) (among places place) (eq-eqb place place refl)

-- A place that is among some places is an element of their list, and the other way round.
pub contains_among : (places : List ℕ) (k : ℕ) → among places k ≡ true → Contains places k
contains_among [] k h = cc
contains_among (p ∷ ps) k h =
    ⊎_elim (λ (e : (p == k) ≡ true). (let same : p ≡ k = eqb-true p k e in subst (λ i. Contains (p ∷ ps) i) same
    (in_front p ps))) (λ (e : among ps k ≡ true). behind p k ps (contains_among ps k e))
    (or_cases (p == k) (among ps k) h)

pub among_contains : (places : List ℕ) (k : ℕ) → Contains places k → among places k ≡ true
among_contains [] k at = absurd (omega arith)
among_contains (p ∷ ps) k (zero, less, is) = or_left (p == k) (among ps k) (eq-eqb p k is)
among_contains (p ∷ ps) k (suc i, less, is) = or_right (p == k) (among ps k) (among_contains ps k (i, omega arith, is))

-- What holds of all of a list holds of each.
pub all_among : (P : ℕ → Type 0) (places : List ℕ) (k : ℕ) → AllByRecursion P places → among places k ≡ true → P k
all_among P [] k all h = cc
all_among P (p ∷ ps) k all h =
    ⊎_elim (λ (e : (p == k) ≡ true). (let same : p ≡ k = eqb-true p k e in subst P same all.0))
    (λ (e : among ps k ≡ true). all_among P ps k all.1 e) (or_cases (p == k) (among ps k) h)

pub among_all : (P : ℕ → Type 0) (places : List ℕ) → ((k : ℕ) → among places k ≡ true → P k) → AllByRecursion P places
among_all P [] each = tt
among_all P (p ∷ ps) each = (
  each p (among_itself p ps),
  among_all P ps
      (λ k h. each k (or_right (p == k) (among ps k) h)),
)

step_in : (b : Bool) (xs : List ℕ) (n k : ℕ) → (among xs k ≡ true) ⊎ ((b ≡ true) × (k ≡ n))
    → among (if b then xs ++ n ∷ [] else xs) k ≡ true
step_in false xs n k (inl h) = h
step_in false xs n k (inr h) = (let e = h.0 in cc)
step_in true xs n k (inl h) = list_any-append (λ i. i == k) xs (n ∷ []) ∙ or_left (among xs k) (among (n ∷ []) k) h
step_in true xs n k (inr h) = list_any-append (λ i. i == k) xs (n ∷ [])
    ∙ or_right (among xs k) (among (n ∷ []) k) (or_left (n == k) false (eq-eqb n k (sym h.1)))

step_out : (b : Bool) (xs : List ℕ) (n k : ℕ) → among (if b then xs ++ n ∷ [] else xs) k ≡ true
    → (among xs k ≡ true) ⊎ ((b ≡ true) × (k ≡ n))
step_out false xs n k h = inl h
step_out true xs n k h =
    ⊎_elim (λ (e : among xs k ≡ true). inl e) (λ (e : among (n ∷ []) k ≡ true). inr (refl, last e))
    (or_cases (among xs k) (among (n ∷ []) k) (sym (list_any-append (λ i. i == k) xs (n ∷ [])) ∙ h))
  where
    last : among (n ∷ []) k ≡ true → k ≡ n
    last e = ⊎_elim (λ (same : (n == k) ≡ true). sym (eqb-true n k same)) (λ (none : false ≡ true). cc)
        (or_cases (n == k) false e)

pub picked_in : (test : ℕ → Bool) (n k : ℕ) → k < n → test k ≡ true → among (places_where test n) k ≡ true
picked_in test zero k less holds = absurd (omega arith)
picked_in test (suc n) k less holds =
    step_in (test n) (places_where test n) n k
    (⊎_elim (λ (same : k ≡ n). inr (subst (λ i. test i ≡ true) same holds, same))
    (λ (other : k ≡ n → ⊥). inl (picked_in test n k (omega arith) holds)) (cases_eq k n))

pub in_picked : (test : ℕ → Bool) (n k : ℕ) → among (places_where test n) k ≡ true → (k < n) × (test k ≡ true)
in_picked test zero k h = cc
in_picked test (suc n) k h =
    ⊎_elim (λ (e : among (places_where test n) k ≡ true).
    (let ih = in_picked test n k e in (omega (arith, ih.0), ih.1)))
    (λ (e : (test n ≡ true) × (k ≡ n)). (omega (arith, e.1), subst (λ i. test i ≡ true) (sym e.1) e.0))
    (step_out (test n) (places_where test n) n k h)

pub picked_below : (test : ℕ → Bool) (n : ℕ) → AllByRecursion (λ k. k < n) (places_where test n)
picked_below test n = among_all (λ k. k < n) (places_where test n) (λ k h. (in_picked test n k h).0)

same_default : (ys : List ℕ) (i : ℕ) → slice_index_or ys i (slice_index_or ys i 0) ≡ slice_index_or ys i 0
same_default [] i = refl
same_default (y ∷ ys) zero = refl
same_default (y ∷ ys) (suc i) = same_default ys i

-- They ascend.
rises_push : (xs : List ℕ) (n : ℕ) → IsStrictlyIncreasing xs → AllByRecursion (λ k. k < n) xs
    → IsStrictlyIncreasing (xs ++ n ∷ [])
rises_push xs n rises below k less =
    let long : length (xs ++ n ∷ []) ≡ length xs + 1 = length-append xs (n ∷ []) in
    let front : slice_index_or (xs ++ n ∷ []) k 0 ≡ slice_index_or xs k 0 = get_or-append xs (n ∷ []) 0 k
    (omega (arith, long, less)) in
    ⊎_elim (λ (last : k + 1 ≡ length xs).
    (let low : slice_index_or xs k 0 < n = all_among (λ i. i < n) xs (slice_index_or xs k 0) below
    (among_contains xs (slice_index_or xs k 0) (k, omega (arith, last), same_default xs k)) in
    let seam : slice_index_or (xs ++ n ∷ []) (k + 1) 0 ≡ n = subst (λ i. slice_index_or (xs ++ n ∷ []) i 0 ≡ n)
    (sym last) (get_or-append_seam xs n [] 0) in
    omega (arith, low, front, seam)))
    (λ (inner : k + 1 ≡ length xs → ⊥).
    (let within : k + 1 < length xs = omega (arith, long, less, inner) in
    let next : slice_index_or (xs ++ n ∷ []) (k + 1) 0 ≡ slice_index_or xs (k + 1) 0 = get_or-append xs (n ∷ []) 0
    (k + 1) within in
    let up = rises k within in
    omega (arith, front, next, up))) (cases_eq (k + 1) (length xs))

either_rises : (b : Bool) (xs : List ℕ) (n : ℕ) → IsStrictlyIncreasing xs → AllByRecursion (λ k. k < n) xs
    → IsStrictlyIncreasing (if b then xs ++ n ∷ [] else xs)
either_rises false xs n rises below = rises
either_rises true xs n rises below = rises_push xs n rises below

pub picked_rises : (test : ℕ → Bool) (n : ℕ) → IsStrictlyIncreasing (places_where test n)
picked_rises test zero = λ k less. absurd (omega arith)
picked_rises test (suc n) = either_rises (test n) (places_where test n) n (picked_rises test n) (picked_below test n)

-- Whether a test holds somewhere on a list.
pub any_in : (p : ℕ → Bool) (places : List ℕ) (k : ℕ) → among places k ≡ true → p k ≡ true → list_any p places ≡ true
any_in p [] k h holds = cc
any_in p (x ∷ xs) k h holds =
    ⊎_elim (λ (e : (x == k) ≡ true). (let same : x ≡ k = eqb-true x k e in or_left (p x) (list_any p xs)
    (ap p same ∙ holds))) (λ (e : among xs k ≡ true). or_right (p x) (list_any p xs) (any_in p xs k e holds))
    (or_cases (x == k) (among xs k) h)

pub in_any : (p : ℕ → Bool) (places : List ℕ) → list_any p places ≡ true
    → (k : ℕ) × (among places k ≡ true) × (p k ≡ true)
in_any p [] h = cc
in_any p (x ∷ xs) h =
    ⊎_elim (λ (e : p x ≡ true). (x, among_itself x xs, e))
    (λ (e : list_any p xs ≡ true). (let at = in_any p xs
    e in (at.0, or_right (x == at.0) (among xs at.0) at.1, at.2))) (or_cases (p x) (list_any p xs) h)

pub any_same : (p q : ℕ → Bool) (places : List ℕ) → AllByRecursion (λ k. p k ≡ q k) places
    → list_any p places ≡ list_any q places
any_same p q [] same = refl
any_same p q (x ∷ xs) same = rw (same.0, any_same p q xs same.1) refl

pub picked_same : (p q : ℕ → Bool) (n : ℕ) → ((k : ℕ) → k < n → p k ≡ q k) → places_where p n ≡ places_where q n
picked_same p q zero same = refl
picked_same p q (suc n) same = rw (same n (omega arith), picked_same p q n (λ k less. same k (omega arith))) refl
