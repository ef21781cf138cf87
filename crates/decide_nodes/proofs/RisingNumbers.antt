-- Lists of numbers that rise.
use Rattle.std.proofs.Common.{◌≡◌, ℕ, zero, suc, ◌+◌, ◌<◌, ◌≤◌, ◌==◌, ◌||◌, Bool, true, false, List, [], ◌∷◌, ◌++◌, length, length-append, slice_index, slice_index_or, if◌then◌else◌, refl, sym, ◌∙◌, subst, arith, ⊎_elim}
use Rattle.std.proofs.Math.ListN.{get_or-append}
use Rattle.std.proofs.Math.Seq.{get_or-append_seam}
use Rattle.std.specs.List.{AllByRecursion}
use Rattle.std.specs.List.Sorted.{IsStrictlyIncreasing}
use Rattle.std.proofs.lemmas.Bool.{cases_Bool, cases_eq, eq-eqb, eqb-true, ne_eqb, or_cases}
use Rattle.std.proofs.lemmas.List.{get_or_default}
use Rattle.law_model.specs.Places.{among, places_where}
use Rattle.law_model.proofs.PlacesWhere.{all_among, contains_among, in_picked, or_left, picked_in, picked_rises}
use Rattle.decide_nodes.proofs.NodeSources.{first_below, others_rise}

-- Each number stands below all after it.
abbrev pub Rises : List ℕ → Type 0
Rises [] = Unit {0}
Rises (x ∷ xs) = AllByRecursion (λ y. x < y) xs × Rises xs

-- Lists that rise with the same places are the same.
pub rises_same : (xs ys : List ℕ) → Rises xs → Rises ys → ((k : ℕ) → among xs k ≡ among ys k) → xs ≡ ys
rises_same [] [] up over same = refl
rises_same [] (y ∷ ys) up over same =
    (let e : false ≡ true = same y ∙ or_left (y == y) (among ys y) (eq-eqb y y refl) in cc)
rises_same (x ∷ xs) [] up over same =
    (let e : true ≡ false = sym (or_left (x == x) (among xs x) (eq-eqb x x refl)) ∙ same x in cc)
rises_same (x ∷ xs) (y ∷ ys) up over same =
    rw (head, rises_same xs ys up.1 over.1 tail) refl
  where
    low : (a b : ℕ) (bs : List ℕ) → Rises (b ∷ bs) → among (b ∷ bs) a ≡ true → b ≤ a
    low a b bs up at = ⊎_elim (λ (e : (b == a) ≡ true). (let same = eqb-true b a e in omega (arith, same)))
        (λ (e : among bs a ≡ true). (let less : b < a = all_among (λ k. b < k) bs a up.0 e in omega (arith, less)))
        (or_cases (b == a) (among bs a) at)

    head : x ≡ y
    head =
        let first = low y x xs up (same y ∙ or_left (y == y) (among ys y) (eq-eqb y y refl)) in
        let second = low x y ys over (sym (same x) ∙ or_left (x == x) (among xs x) (eq-eqb x x refl)) in
        omega (arith, first, second)

    off : (a : ℕ) (list : List ℕ) → AllByRecursion (λ k. a < k) list → among list a ≡ false
    off a list all = ⊎_elim (λ (h : among list a ≡ true). (let less : a < a = all_among (λ k. a < k) list a all h in absurd (omega (arith, less))))
        (λ (h : among list a ≡ false). h) (cases_Bool (among list a))

    tail : (k : ℕ) → among xs k ≡ among ys k
    tail k = ⊎_elim (λ (e : x ≡ k). off_at k e) (λ (e : x ≡ k → ⊥). rest k e) (cases_eq x k)
      where
        cancel : (a b p q : Bool) → a ≡ false → b ≡ false → a || p ≡ b || q → p ≡ q
        cancel a b p q first second both = rw (first, second) at both

        off_at : (k : ℕ) → x ≡ k → among xs k ≡ among ys k
        off_at k e = subst (λ i. among xs i ≡ among ys i) e (off x xs up.0
            ∙ sym (off x ys (subst (λ i. AllByRecursion (λ k. i < k) ys) (sym head) over.0)))

        rest : (k : ℕ) → (x ≡ k → ⊥) → among xs k ≡ among ys k
        rest k e = cancel (x == k) (y == k) (among xs k) (among ys k)
            (ne_eqb x k e)
            (ne_eqb y k (λ same. e (head ∙ same))) (same k)

pub rises : (xs : List ℕ) → IsStrictlyIncreasing xs → Rises xs
rises [] up = tt
rises (x ∷ xs) up = (first_below x xs up, rises xs (others_rise x xs up))

-- The numbers that are among some that ascend, below a bound of these.
pub among_where : (xs : List ℕ) (n : ℕ) → IsStrictlyIncreasing xs → ((p : ℕ) → p < length xs → slice_index xs p < n)
    → places_where (among xs) n ≡ xs
among_where xs n up low =
    rises_same (places_where (among xs) n) xs (rises _ (picked_rises (among xs) n)) (rises xs up) (λ k. same k)
  where
    same : (k : ℕ) → among (places_where (among xs) n) k ≡ among xs k
    same k = ⊎_elim (λ (on : among xs k ≡ true).
        (let found = contains_among xs k on in
        let here : slice_index xs found.0 ≡ k = get_or_default xs found.0 0 k found.1 ∙ found.2 in
        let under = low found.0 found.1 in
        picked_in (among xs) n k (omega (arith, here, under)) on ∙ sym on))
        (λ (off : among xs k ≡ false). ⊎_elim (λ (at : among (places_where (among xs) n) k ≡ true).
        (let on = (in_picked (among xs) n k at).1 in let e : true ≡ false = sym on ∙ off in cc))
        (λ (none : among (places_where (among xs) n) k ≡ false). none ∙ sym off)
        (cases_Bool (among (places_where (among xs) n) k))) (cases_Bool (among xs k))

-- A place at which a test holds stands after those below it.
pub place_position : (t : ℕ → Bool) (n k : ℕ) → k < n → t k ≡ true
    → (length (places_where t k) < length (places_where t n))
    × (slice_index_or (places_where t n) (length (places_where t k)) 0 ≡ k)
place_position t zero k less holds = absurd (omega arith)
place_position t (suc n) k less holds =
    ⊎_elim at_last (λ (other : k ≡ n → ⊥). (let inner : k < n = omega (arith, less, other) in
    earlier (t n) (place_position t n k inner holds))) (cases_eq k n)
  where
    xs : List ℕ
    xs = places_where t n

    earlier : (b : Bool) → (length (places_where t k) < length xs)
        × (slice_index_or xs (length (places_where t k)) 0 ≡ k)
        → (length (places_where t k) < length (if b then xs ++ n ∷ [] else xs))
        × (slice_index_or (if b then xs ++ n ∷ [] else xs) (length (places_where t k)) 0 ≡ k)
    earlier true at = (let long = length-append xs (n ∷ []) in let low = at.0 in (
      omega (arith, long, low),
      get_or-append xs (n ∷ []) 0 (length (places_where t k)) at.0 ∙ at.1,
    ))
    earlier false at = at

    at_last : k ≡ n → (length (places_where t k) < length (places_where t (suc n)))
        × (slice_index_or (places_where t (suc n)) (length (places_where t k)) 0 ≡ k)
    at_last same =
        let on : t n ≡ true = subst (λ i. t i ≡ true) same holds in
        let long = length-append xs (n ∷ []) in
        rw (same, on) (omega (arith, long), get_or-append_seam xs n [] 0)
