-- Lists of literals, each of which stands once.
use Rattle.std.proofs.Common.{◌≡◌, ◌≢◌, ℕ, zero, suc, ◌<◌, true, List, [], ◌∷◌, length, map, refl, sym, ap, ◌∙◌, arith, subst, Contains, rules, slice_index_or}
use Rattle.std.specs.Prelude.{ℤ}
use Rattle.std.specs.Bool.{Decides}
use Rattle.std.specs.Cmp.{IsTotalOrder}
use Rattle.std.specs.Cmp.Lexicographic.{lists_ties, pointwise, pointwise_decides, slice_cmp}
use Rattle.std.specs.List.{All, AllByRecursion, AllPairs, dedup}
use Rattle.std.specs.List.Sorted.{IsPermutation, IsSorted, IsStrictlySortedBy}
use Rattle.std.specs.Ordering.{eq_by_cmp, int_cmp, int_eq}
use Rattle.std.specs.declared.cmp.Ordering.TheVariants.{Equal, Less}
use Rattle.std.proofs.lemmas.Cmp.{int_cmp_total, int_eq_equiv, lists_equiv, lists_total, on_equiv, on_total, tied_itself}
use Rattle.std.proofs.lemmas.List.Elements.{All-contains, All-from_recursion, All-map, Contains-get_or}
use Rattle.std.proofs.lemmas.List.Kept.{AllPairs-cons, Any-dedup, Contains-from_dedup, IsStrictlySortedBy-dedup}
use Rattle.std.proofs.lemmas.List.Sorted.{Contains-permutation, IsPermutation-sym}
use Rattle.sat_proof.specs.Assignment.{HasNoZero}
use Rattle.decide_cnf.specs.Growth.{AreOnce}

map_at : {V : Type 0} (f : V → List ℤ) (vs : List V) (i : ℕ) (d : V)
    → slice_index_or (map f vs) i (f d) ≡ f (slice_index_or vs i d)
map_at f [] i d = refl
map_at f (v ∷ vs) zero d = refl
map_at f (v ∷ vs) (suc i) d = map_at f vs i d

map_long : {V : Type 0} (f : V → List ℤ) (vs : List V) → length (map f vs) ≡ length vs
map_long f [] = refl
map_long f (v ∷ vs) = ap suc (map_long f vs)

-- An element of lists without zeros has none.
pub no_zero_at : {V : Type 0} (f : V → List ℤ) (vs : List V) (i : ℕ) (v : V) → All HasNoZero (map f vs)
    → i < length vs → v ≡ slice_index_or vs i v → HasNoZero (f v)
no_zero_at f vs i v all less is = subst HasNoZero (map_at f vs i v ∙ ap f (sym is))
    (all i (f v) (let long = map_long f vs in omega (arith, long, less)))

pub once_no_zero : (lists found : List (List ℤ)) → AreOnce lists found → All HasNoZero lists → All HasNoZero found
once_no_zero lists found once all k d less = All-contains HasNoZero lists (slice_index_or found k d) all
    (once.each (slice_index_or found k d) (Contains-get_or found k d less))

-- Signed numbers are equal just where their order says so.
signed_ties : (x y : ℤ) → int_eq x y ≡ eq_by_cmp int_cmp x y
signed_ties x y = search rules

int_decides : (x y : ℤ) → Decides (int_eq x y) (x ≡ y)
int_decides x y = search rules

module _ {V : Type 0} (f : V → List ℤ) where
  -- The order of lists, seen through f.
  total : IsTotalOrder (λ (x y : V). slice_cmp int_cmp (f x) (f y))
  total = on_total f (lists_total int_cmp_total)

  same_list : (x y : V) → pointwise int_eq (f x) (f y) ≡ true → f x ≡ f y
  same_list x y e = (pointwise_decides int_decides (f x) (f y)).0 e

  apart : (x y : V) → slice_cmp int_cmp (f x) (f y) ≡ Less → f x ≢ f y
  apart x y less same =
      let own : slice_cmp int_cmp (f x) (f x) ≡ Equal = tied_itself (lists_total int_cmp_total) (f x) in
      let e : Equal ≡ Less = sym own ∙ ap (λ ys. slice_cmp int_cmp (f x) ys) same ∙ less in cc

  -- An element of the lists is the list of an element.
  mapped_in : (vs : List V) (v : V) → Contains vs v → Contains (map f vs) (f v)
  mapped_in vs v at = (
    at.0,
    (let long = map_long f vs in let less = at.1 in omega (arith, long, less)),
    map_at f vs at.0 v ∙ ap f at.2,
  )

  in_mapped : (vs : List V) (list : List ℤ) → Contains (map f vs) list → (v : V) × Contains vs v × (f v ≡ list)
  in_mapped [] list at = absurd (let less = at.1 in omega (arith, less))
  in_mapped (v ∷ vs) list (zero, less, is) = (v, (0, omega arith, refl), is)
  in_mapped (v ∷ vs) list (suc k, less, is) =
      let rest = in_mapped vs list (k, omega arith, is) in
      (rest.0, (suc rest.1.0, (let low = rest.1.1 in omega (arith, low)), rest.1.2), rest.2)

  -- Lists that ascend strictly stand once.
  sorted_once : (vs : List V) → IsStrictlySortedBy (λ (x y : V). slice_cmp int_cmp (f x) (f y)) vs
      → AllPairs (λ a b. a ≢ b) (map f vs)
  unfolding IsStrictlySortedBy
  sorted_once [] sorted = λ i j d less within. absurd (omega arith)
  sorted_once (v ∷ vs) sorted = AllPairs-cons (λ (a b : List ℤ). a ≢ b) (f v) (map f vs)
      (All-map (λ (b : List ℤ). f v ≢ b) f vs (All-from_recursion (λ (y : V). f v ≢ f y) vs (all_apart vs sorted.0)))
      (sorted_once vs sorted.1)
    where
      all_apart : (ys : List V) → AllByRecursion (λ (y : V). slice_cmp int_cmp (f v) (f y) ≡ Less) ys
          → AllByRecursion (λ (y : V). f v ≢ f y) ys
      all_apart [] all = tt
      all_apart (y ∷ ys) all = (apart v y all.0, all_apart ys all.1)

  -- What a sort and then `dedup` leave.
  pub once_sorted : (old sorted new : List V) → IsPermutation old sorted
      → IsSorted (λ (x y : V). slice_cmp int_cmp (f x) (f y)) sorted
      → new ≡ dedup (λ (x y : V). pointwise int_eq (f x) (f y)) sorted → AreOnce (map f old) (map f new)
  once_sorted old sorted new moved rises left = subst (λ vs. AreOnce (map f old) (map f vs)) (sym left) (record {
    all = λ list at. (let of = in_mapped old list at in
        let here = Contains-permutation old sorted of.0 moved of.1 in
        let found = Any-dedup (on_equiv f (lists_equiv int_eq_equiv)) sorted of.0 here in
        subst (Contains (map f (dedup (λ (x y : V). pointwise int_eq (f x) (f y)) sorted)))
        (sym (same_list of.0 found.1 found.4) ∙ of.2)
        (mapped_in (dedup (λ (x y : V). pointwise int_eq (f x) (f y)) sorted) found.1 (found.0, found.2, found.3)));
    each = λ list at. (let of = in_mapped (dedup (λ (x y : V). pointwise int_eq (f x) (f y)) sorted) list at in
        let here = Contains-from_dedup (λ (x y : V). pointwise int_eq (f x) (f y)) sorted of.0 of.1 in
        subst (Contains (map f old)) of.2 (mapped_in old of.0
        (Contains-permutation sorted old of.0 (IsPermutation-sym old sorted moved) here)));
    once = sorted_once (dedup (λ (x y : V). pointwise int_eq (f x) (f y)) sorted)
        (IsStrictlySortedBy-dedup total (λ x y. lists_ties int_cmp signed_ties (f x) (f y)) sorted rises);
  })
