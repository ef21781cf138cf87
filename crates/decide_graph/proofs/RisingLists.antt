-- Lists of numbers that ascend.
use Rattle.std.proofs.Common.{◌≡◌, ℕ, ◌+◌, ◌<◌, ◌≤◌, ◌==◌, Bool, true, false, List, [], ◌∷◌, ◌++◌, length, slice_index, Err, refl, sym, ◌∙◌, subst, arith, ◌⊎◌, ⊎_elim, length-append}
use Rattle.std.specs.List.{AllByRecursion}
use Rattle.std.specs.List.Sorted.{IsBinarySearchResult, IsStrictlyIncreasing, IsStrictlySortedBy}
use Rattle.std.specs.Ordering.{nat_cmp, MatchOrdering}
use Rattle.std.specs.declared.cmp.Ordering.TheVariants.{Less}
use Rattle.std.specs.Cmp.{ranks}
use Rattle.std.proofs.Math.ListN.{get_or-append}
use Rattle.std.proofs.lemmas.Bool.{cases_eq, eqb-true, or_cases}
use Rattle.std.proofs.lemmas.List.{get_or_default}
use Rattle.std.proofs.lemmas.List.Folds.{list_any-append}
use Rattle.std.proofs.lemmas.List.Sorted.{searched}
use Rattle.std.proofs.lemmas.Map.Keys.{below_from_sorted, sorted_from_strictly_increasing}
use Rattle.law_model.specs.Places.{among}
use Rattle.law_model.proofs.PlacesWhere.{all_among, contains_among}
use Rattle.decide_nodes.proofs.RisingNumbers.{Rises, rises}
use Rattle.decide_graph.proofs.NumberBits.{AreApart}

none_there : (x : ℕ) (xs : List ℕ) → AllByRecursion (λ y. x < y) xs → among xs x ≡ false
none_there x xs above = not_true (among xs x) (λ at. (let up : x < x = all_among (λ y. x < y) xs x above at in omega arith))
  where
    not_true : (b : Bool) → (b ≡ true → ⊥) → b ≡ false
    not_true false h = refl
    not_true true h = absurd (h refl)

rises_apart : (xs : List ℕ) → Rises xs → AreApart xs
rises_apart [] up = tt
rises_apart (x ∷ xs) up = (none_there x xs up.0, rises_apart xs up.1)

-- So there are no doubles.
pub increasing_apart : (xs : List ℕ) → IsStrictlyIncreasing xs → AreApart xs
increasing_apart xs increases = rises_apart xs (rises xs increases)

behind_above : (xs : List ℕ) (p : ℕ) (ys : List ℕ) → Rises (xs ++ p ∷ ys) → AllByRecursion (λ y. p < y) ys
behind_above [] p ys up = up.0
behind_above (x ∷ xs) p ys up = behind_above xs p ys up.1

-- What is below a place of the list stands before it.
pub stands_before : (xs : List ℕ) (p : ℕ) (ys : List ℕ) (k : ℕ) → IsStrictlyIncreasing (xs ++ p ∷ ys)
    → among (xs ++ p ∷ ys) k ≡ true → k < p → among xs k ≡ true
stands_before xs p ys k increases at less =
    ⊎_elim (λ (e : among xs k ≡ true). e)
    (λ (e : among (p ∷ ys) k ≡ true). ⊎_elim
    (λ (d : (p == k) ≡ true). (let same = eqb-true p k d in absurd (omega (arith, same, less))))
    (λ (d : among ys k ≡ true). (let up : p < k = all_among (λ y. p < y) ys k
    (behind_above xs p ys (rises (xs ++ p ∷ ys) increases)) d in absurd (omega (arith, up, less))))
    (or_cases (p == k) (among ys k) e))
    (or_cases (among xs k) (among (p ∷ ys) k) (sym (list_any-append (λ i. i == k) xs (p ∷ ys)) ∙ at))

-- A front of the list ascends.
pub front_increases : (xs ys : List ℕ) → IsStrictlyIncreasing (xs ++ ys) → IsStrictlyIncreasing xs
front_increases xs ys increases k less =
    let long = length-append xs ys in
    let here = get_or-append xs ys 0 k (omega (arith, less)) in
    let next = get_or-append xs ys 0 (k + 1) less in
    let up = increases k (omega (arith, less, long)) in
    omega (arith, here, next, up)

-- Of two positions the lower has the smaller number.
pub index_below : (xs : List ℕ) (i k : ℕ) → IsStrictlyIncreasing xs → i < k → k < length xs
    → slice_index xs i < slice_index xs k
index_below xs i k increases less within =
    below_from_sorted xs i k 0 (sorted_from_strictly_increasing xs increases) less within

pub index_up : (xs : List ℕ) → IsStrictlyIncreasing xs → (i k : ℕ) → i ≤ k → k < length xs
    → slice_index xs i ≤ slice_index xs k
index_up xs increases i k up within =
    ⊎_elim (λ (e : i ≡ k). (rw e (let same : slice_index xs k ≤ slice_index xs k = omega arith in same)))
    (λ (e : i ≡ k → ⊥). (let less = index_below xs i k increases (omega arith) within in omega (arith, less)))
    (cases_eq i k)

either : (a b : ℕ) → (a ≤ b) ⊎ (b < a)
either a b = grind arith

-- A number that is there is found.
pub found_there : (xs : List ℕ) (x i : ℕ) → IsStrictlyIncreasing xs → among xs x ≡ true
    → IsBinarySearchResult (λ y. nat_cmp y x) xs (Err i) → ⊥
found_there xs x i increases at result =
    let parts = searched xs x (Err i) result (index_up xs increases) in
    let there = contains_among xs x at in
    let is : slice_index xs there.0 ≡ x = get_or_default xs there.0 0 x there.1 ∙ there.2 in
    ⊎_elim (λ (up : i ≤ there.0). (let above = parts.2 there.0 up there.1 in omega (arith, above, is)))
    (λ (down : there.0 < i). (let below = parts.1 there.0 down in omega (arith, below, is)))
    (either i there.0)
