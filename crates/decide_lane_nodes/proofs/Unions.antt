-- The union of two lists that ascend, as it is merged.
use Rattle.std.proofs.Common.{◌≡◌, ℕ, zero, suc, ◌+◌, ◌<◌, ◌≤◌, ◌==◌, ◌||◌, Bool, true, false, List, [], ◌∷◌, ◌++◌, None, Some, length, nat_lt, if◌then◌else◌, refl, sym, ap, ◌∙◌, subst, arith, slice_index_or, inl, inr, ◌⊎◌, ⊎_elim}
use Rattle.std.specs.List.{AllByRecursion}
use Rattle.std.specs.List.Sorted.{IsStrictlyIncreasing}
use Rattle.std.proofs.lemmas.Bool.{cases_Bool, cases_eq, eq-eqb, eqb-true, lt-ltb, ltb-true, ne_eqb, or_cases}
use Rattle.std.proofs.lemmas.List.Folds.{list_any-append}
use Rattle.law_model.specs.Places.{among}
use Rattle.law_model.proofs.PlacesWhere.{all_among, among_all, or_left, or_right}
use Rattle.decide_nodes.proofs.RisingNumbers.{Rises, rises}
use Rattle.decide_lane_nodes.specs.Union.{IsUnion, after, first, least}

-- Lists that rise ascend strictly.
pub increases : (xs : List ℕ) → Rises xs → IsStrictlyIncreasing xs
increases [] up k less = absurd (omega arith)
increases (x ∷ []) up k less = absurd (omega arith)
increases (x ∷ y ∷ ys) up zero less = up.0.0
increases (x ∷ y ∷ ys) up (suc k) less =
    let same : suc (k + 1) ≡ suc k + 1 = omega arith in
    subst (λ i. slice_index_or (x ∷ y ∷ ys) (suc k) 0 < slice_index_or (x ∷ y ∷ ys) i 0) same
    (increases (y ∷ ys) up.1 k (omega (arith, less)))

-- What stands after all of a list that rises.
pub rises_more : (xs : List ℕ) (p : ℕ) → Rises xs → AllByRecursion (λ k. k < p) xs → Rises (xs ++ p ∷ [])
rises_more [] p up below = (tt, tt)
rises_more (x ∷ xs) p up below = (above xs up.0, rises_more xs p up.1 below.1)
  where
    above : (ys : List ℕ) → AllByRecursion (λ y. x < y) ys → AllByRecursion (λ y. x < y) (ys ++ p ∷ [])
    above [] all = (below.0, tt)
    above (y ∷ ys) all = (all.0, above ys all.1)

-- All of a list stand before all of another.
abbrev pub Before : List ℕ → List ℕ → Type 0
Before xs ys = (p q : ℕ) → among xs p ≡ true → among ys q ≡ true → p < q

-- A place is at most the first of a list.
abbrev pub AtMost : ℕ → List ℕ → Type 0
AtMost p [] = Unit {0}
AtMost p (x ∷ xs) = p ≤ x

after_rises : (xs : List ℕ) (p : ℕ) → Rises xs → Rises (after xs p)
after_rises [] p up = tt
after_rises (x ∷ xs) p up = by (x == p)
  where
    by : (b : Bool) → Rises (if b then xs else x ∷ xs)
    by true = up.1
    by false = up

after_in : (xs : List ℕ) (p k : ℕ) → among (after xs p) k ≡ true → among xs k ≡ true
after_in [] p k at = at
after_in (x ∷ xs) p k at = by (x == p) at
  where
    by : (b : Bool) → among (if b then xs else x ∷ xs) k ≡ true → among (x ∷ xs) k ≡ true
    by true at = or_right (x == k) (among xs k) at
    by false at = at

-- What stands after it is over it.
after_above : (xs : List ℕ) (p k : ℕ) → Rises xs → AtMost p xs → among (after xs p) k ≡ true → p < k
after_above [] p k up low at = cc
after_above (x ∷ xs) p k up low at = by (x == p) refl at
  where
    by : (b : Bool) → (x == p) ≡ b → among (if b then xs else x ∷ xs) k ≡ true → p < k
    by true is at =
        let same : x ≡ p = eqb-true x p is in
        let over : x < k = all_among (λ y. x < y) xs k up.0 at in omega (arith, same, over)
    by false is at =
        let less : p < x = ⊎_elim (λ (same : x ≡ p). (let e = eq-eqb x p same in let no : true ≡ false = sym e ∙ is in cc))
        (λ (other : x ≡ p → ⊥). omega (arith, low, other)) (cases_eq x p) in
        ⊎_elim (λ (e : (x == k) ≡ true). (let same = eqb-true x k e in omega (arith, same, less)))
        (λ (e : among xs k ≡ true). (let over : x < k = all_among (λ y. x < y) xs k up.0 e in omega (arith, over, less)))
        (or_cases (x == k) (among xs k) at)

-- But for the place itself it has what the list has.
after_but : (xs : List ℕ) (p k : ℕ) → (p == k) || among (after xs p) k ≡ (p == k) || among xs k
after_but [] p k = refl
after_but (x ∷ xs) p k = by (x == p) refl
  where
    twice : (a b : Bool) → a || b ≡ a || (a || b)
    twice true b = refl
    twice false b = refl

    by : (b : Bool) → (x == p) ≡ b → (p == k) || among (if b then xs else x ∷ xs) k ≡ (p == k) || among (x ∷ xs) k
    by true is =
        let same : x ≡ p = eqb-true x p is in
        twice (p == k) (among xs k) ∙ ap (λ i. (p == k) || ((i == k) || among xs k)) (sym same)
    by false is = refl

after_shorter : (xs : List ℕ) (p : ℕ) → length (after xs p) ≤ length xs
after_shorter [] p = omega arith
after_shorter (x ∷ xs) p = by (x == p)
  where
    by : (b : Bool) → length (if b then xs else x ∷ xs) ≤ length (x ∷ xs)
    by true = omega arith
    by false = omega arith

after_first : (x p : ℕ) (xs : List ℕ) → x ≡ p → length (after (x ∷ xs) p) < length (x ∷ xs)
after_first x p xs same = rw (eq-eqb x p same) (omega arith)

-- The least of two lists is at most the first of each, and the first of one.
pub record IsLeast (left right : List ℕ) (p : ℕ) : Type 0 where
  pub left_low : AtMost p left
  pub right_low : AtMost p right
  pub there : among left p || among right p ≡ true
  pub fewer : length (after left p) + length (after right p) < length left + length right

either : (a b : ℕ) → (a ≤ b) ⊎ (b < a)
either a b = grind arith

least_by : (x y : ℕ) (xs ys : List ℕ) (b : Bool) → nat_lt y x ≡ b → IsLeast (x ∷ xs) (y ∷ ys) (if b then y else x)
least_by x y xs ys true is =
    let less = ltb-true y x is in
    record {
      left_low = omega (arith, less);
      right_low = omega arith;
      there = or_right (among (x ∷ xs) y) (among (y ∷ ys) y) (or_left (y == y) (among ys y) (eq-eqb y y refl));
      fewer = (let a = after_shorter (x ∷ xs) y in let b = after_first y y ys refl in omega (arith, a, b));
    }
least_by x y xs ys false is =
    let up : x ≤ y = ⊎_elim (λ (h : x ≤ y). h) (λ (h : y < x).
    (let e = lt-ltb y x h in let no : true ≡ false = sym e ∙ is in cc)) (either x y) in
    record {
      left_low = omega arith;
      right_low = up;
      there = or_left (among (x ∷ xs) x) (among (y ∷ ys) x) (or_left (x == x) (among xs x) (eq-eqb x x refl));
      fewer = (let a = after_first x x xs refl in let b = after_shorter (y ∷ ys) x in omega (arith, a, b));
    }

pub least_is : (left right : List ℕ) (p : ℕ) → least left right ≡ Some p → IsLeast left right p
least_is [] [] p is = cc
least_is [] (y ∷ ys) p is =
    let same : y ≡ p = cc in
    subst (IsLeast [] (y ∷ ys)) same (record {
      left_low = tt;
      right_low = omega arith;
      there = or_left (y == y) (among ys y) (eq-eqb y y refl);
      fewer = (let a = after_first y y ys refl in omega (arith, a));
    })
least_is (x ∷ xs) [] p is =
    let same : x ≡ p = cc in
    subst (IsLeast (x ∷ xs) []) same (record {
      left_low = omega arith;
      right_low = tt;
      there = or_left (among (x ∷ xs) x) false (or_left (x == x) (among xs x) (eq-eqb x x refl));
      fewer = (let a = after_first x x xs refl in omega (arith, a));
    })
least_is (x ∷ xs) (y ∷ ys) p is =
    let same : (if nat_lt y x then y else x) ≡ p = cc in
    subst (IsLeast (x ∷ xs) (y ∷ ys)) same (least_by x y xs ys (nat_lt y x) refl)

pub none_left : (left right : List ℕ) → least left right ≡ None → (left ≡ []) × (right ≡ [])
none_left [] [] is = (refl, refl)
none_left [] (y ∷ ys) is = cc
none_left (x ∷ xs) right is = cc

-- What is merged so far, and what is left of the two lists.
pub record IsMerged (some others all left right : List ℕ) : Type 0 where
  pub all_up : Rises all
  pub left_up : Rises left
  pub right_up : Rises right
  pub left_after : Before all left
  pub right_after : Before all right
  pub are : (k : ℕ) → among all k || (among left k || among right k) ≡ among some k || among others k

pub merge_begins : (some others : List ℕ) → IsStrictlyIncreasing some → IsStrictlyIncreasing others
    → IsMerged some others [] some others
merge_begins some others some_up others_up = record {
  all_up = tt;
  left_up = rises some some_up;
  right_up = rises others others_up;
  left_after = λ p q at there. cc;
  right_after = λ p q at there. cc;
  are = λ k. refl;
}

one_moves : (a b l r x y : Bool) → b || x ≡ b || l → b || y ≡ b || r → (b ≡ true → l || r ≡ true)
    → (a || (b || false)) || (x || y) ≡ a || (l || r)
one_moves true b l r x y left right there = refl
one_moves false true l r x y left right there = sym (there refl)
one_moves false false l r x y left right there = rw (left, right) refl

pub merge_more : (some others all left right : List ℕ) (p : ℕ) → IsMerged some others all left right
    → least left right ≡ Some p → IsMerged some others (all ++ p ∷ []) (after left p) (after right p)
merge_more some others all left right p so is =
    let l = least_is left right p is in
    record {
      all_up = rises_more all p so.all_up (among_all (λ k. k < p) all (λ k at. ⊎_elim (λ h. so.left_after k p at h)
          (λ h. so.right_after k p at h) (or_cases (among left p) (among right p) l.there)));
      left_up = after_rises left p so.left_up;
      right_up = after_rises right p so.right_up;
      left_after = λ i k at there. ⊎_elim (λ h. so.left_after i k h (after_in left p k there))
          (λ same. (let over = after_above left p k so.left_up l.left_low there in omega (arith, same, over))) (front i at);
      right_after = λ i k at there. ⊎_elim (λ h. so.right_after i k h (after_in right p k there))
          (λ same. (let over = after_above right p k so.right_up l.right_low there in omega (arith, same, over))) (front i at);
      are = λ k. ap (λ b. b || (among (after left p) k || among (after right p) k)) (list_any-append (λ i. i == k) all (p ∷ []))
          ∙ one_moves (among all k) (p == k) (among left k) (among right k) (among (after left p) k)
          (among (after right p) k) (after_but left p k) (after_but right p k)
          (λ same. (let e = eqb-true p k same in subst (λ i. among left i || among right i ≡ true) e l.there))
          ∙ so.are k;
    }
  where
    last : (i : ℕ) → among (p ∷ []) i ≡ true → i ≡ p
    last i h = ⊎_elim (λ (e : (p == i) ≡ true). sym (eqb-true p i e)) (λ (e : false ≡ true). cc) (or_cases (p == i) false h)

    front : (i : ℕ) → among (all ++ p ∷ []) i ≡ true → (among all i ≡ true) ⊎ (i ≡ p)
    front i at = ⊎_elim (λ (h : among all i ≡ true). inl h) (λ (h : among (p ∷ []) i ≡ true). inr (last i h))
        (or_cases (among all i) (among (p ∷ []) i) (sym (list_any-append (λ k. k == i) all (p ∷ [])) ∙ at))

pub merge_ends : (some others all left right : List ℕ) → IsMerged some others all left right
    → least left right ≡ None → IsUnion some others all
merge_ends some others all left right so is =
    let none = none_left left right is in
    record {
      rises = increases all so.all_up;
      are = λ k. sym (or_none (among all k)) ∙ ap (λ b. among all k || b) (rw (none.0, none.1) refl) ∙ so.are k;
    }
  where
    or_none : (a : Bool) → a || false ≡ a
    or_none true = refl
    or_none false = refl

pub fewer_left : (left right : List ℕ) (p : ℕ) → least left right ≡ Some p
    → length (after left p) + length (after right p) < length left + length right
fewer_left left right p is = (least_is left right p is).fewer
