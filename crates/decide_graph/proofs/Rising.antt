-- Lists that ascend.
use Rattle.std.proofs.Common.{◌≡◌, ℕ, zero, suc, ◌+◌, ◌<◌, ◌≤◌, ◌==◌, ◌||◌, Bool, true, false, List, [], ◌∷◌, ◌++◌, length, map, refl, sym, ap, ◌∙◌, subst, arith, length-append, slice_index, slice_index_or, if◌then◌else◌, ⊎_elim}
use Rattle.std.specs.List.{AllByRecursion}
use Rattle.std.specs.List.Sorted.{IsStrictlyIncreasing}
use Rattle.std.proofs.Math.ListN.{get_or-append}
use Rattle.std.proofs.Math.Seq.{get_or-append_seam}
use Rattle.std.proofs.lemmas.Bool.{cases_Bool, cases_eq, cases_order, eq-eqb, eqb-true, ne_eqb, or_cases}
use Rattle.std.proofs.lemmas.List.{get_or-map, get_or_default, length-map}
use Rattle.std.proofs.lemmas.Map.Keys.{below_from_sorted, sorted_from_strictly_increasing}
use Rattle.law_model.specs.Places.{among, places_where}
use Rattle.law_model.proofs.PlacesWhere.{all_among, contains_among, in_picked, or_left, picked_in, picked_rises}
use Rattle.decide_nodes.proofs.NodeSources.{first_below, others_rise}

pub rises_pair : (xs : List ℕ) (i k : ℕ) → IsStrictlyIncreasing xs → i < k → k < length xs
    → slice_index_or xs i 0 < slice_index_or xs k 0
rises_pair xs i k rises less within =
    below_from_sorted xs i k 0 (sorted_from_strictly_increasing xs rises) less within

pub rises_upto : (xs : List ℕ) (i k : ℕ) → IsStrictlyIncreasing xs → i ≤ k → k < length xs
    → slice_index_or xs i 0 ≤ slice_index_or xs k 0
rises_upto xs i k rises up within =
    ⊎_elim (λ (same : i ≡ k). (let e = ap (λ n. slice_index_or xs n 0) same in omega (arith, e)))
    (λ (other : i ≡ k → ⊥). (let less = rises_pair xs i k rises (omega (arith, up, other)) within in omega (arith, less)))
    (cases_eq i k)

-- A place below another in a list that ascends stands before it.
pub stands_before : (xs : List ℕ) (p n : ℕ) → IsStrictlyIncreasing xs → p < length xs → n < length xs
    → slice_index_or xs p 0 < slice_index_or xs n 0 → p < n
stands_before xs p n rises p_in n_in less =
    ⊎_elim (λ (same : p ≡ n). absurd (let e = ap (λ i. slice_index_or xs i 0) same in omega (arith, e, less)))
    (⊎_elim (λ (before : p < n). before)
    (λ (after : n < p). absurd (let more = rises_pair xs n p rises after p_in in omega (arith, more, less))))
    (cases_order p n)

-- Two in one place are one.
pub one_position : (xs : List ℕ) (p n : ℕ) → IsStrictlyIncreasing xs → p < length xs → n < length xs
    → slice_index_or xs p 0 ≡ slice_index_or xs n 0 → p ≡ n
one_position xs p n rises p_in n_in same =
    ⊎_elim (λ (e : p ≡ n). e)
    (⊎_elim (λ (before : p < n). absurd (let more = rises_pair xs p n rises before n_in in omega (arith, more, same)))
    (λ (after : n < p). absurd (let more = rises_pair xs n p rises after p_in in omega (arith, more, same))))
    (cases_order p n)

pub index_map : (f : ℕ → ℕ) (xs : List ℕ) (i : ℕ) → i < length xs → slice_index (map f xs) i ≡ f (slice_index xs i)
index_map f xs i less = get_or-map f xs i 0 0 less

-- Elements at positions that ascend, of a list that does.
pub rises_map : (xs idx : List ℕ) → IsStrictlyIncreasing xs → IsStrictlyIncreasing idx
    → ((p : ℕ) → p < length idx → slice_index idx p < length xs) → IsStrictlyIncreasing (map (slice_index xs) idx)
rises_map xs idx rises up within k less =
    let long = length-map idx (slice_index xs) in
    subst (λ a. a < slice_index (map (slice_index xs) idx) (k + 1))
    (sym (index_map (slice_index xs) idx k (omega (arith, less, long))))
    (subst (λ b. slice_index xs (slice_index idx k) < b)
    (sym (index_map (slice_index xs) idx (k + 1) (omega (arith, less, long))))
    (rises_pair xs (slice_index idx k) (slice_index idx (k + 1)) rises (up k (omega (arith, less, long)))
    (within (k + 1) (omega (arith, less, long)))))
