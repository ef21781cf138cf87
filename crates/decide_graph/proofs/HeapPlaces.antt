-- Places in a heap, of which some stand there more than once.
use Rattle.std.proofs.Common.{◌≡◌, ℕ, ◌<◌, ◌≤◌, ◌==◌, ◌||◌, Bool, true, false, Option, None, Some, List, [], ◌∷◌, length, refl, sym, ap, ◌∙◌, subst, arith}
use Rattle.std.proofs.lemmas.List.Sorted.{length_permutation, list_any-IsPermutation}
use Rattle.std.specs.BinaryHeap.{IsUpperBound}
use Rattle.std.specs.Cmp.{ranks}
use Rattle.std.specs.List.{AllByRecursion}
use Rattle.std.specs.List.Sorted.{IsPermutation}
use Rattle.std.specs.Ordering.{MatchOrdering, is_lt, nat_cmp}
use Rattle.std.specs.declared.cmp.Ordering.{Ordering}
use Rattle.std.specs.declared.cmp.Ordering.TheVariants.{Less, Equal, Greater}
use Rattle.law_model.specs.Places.{among}
use Rattle.law_model.proofs.PlacesWhere.{all_among, among_all}
use Rattle.decide_graph.specs.Reached.{Joins, PopsBelow, TakesGreatest, listed}

twice : (a b : Bool) → a || b ≡ a || (a || b)
twice false b = refl
twice true b = refl

swapped : (a b d : Bool) → a || (b || d) ≡ b || (a || d)
swapped false b d = refl
swapped true false d = refl
swapped true true d = refl

-- The same places in another order.
pub same_places : (xs ys : List ℕ) (k : ℕ) → IsPermutation xs ys → among xs k ≡ among ys k
same_places xs ys k moved = list_any-IsPermutation (λ i. i == k) xs ys moved

pub all_moved : (P : ℕ → Type 0) (xs ys : List ℕ) → IsPermutation xs ys → AllByRecursion P xs → AllByRecursion P ys
all_moved P xs ys moved all = among_all P ys (λ k at. all_among P xs k all (same_places xs ys k moved ∙ at))

-- A bound in the heap's order is one of numbers.
not_less : (x y : ℕ) (o : Ordering) → MatchOrdering o (x < y) (x ≡ y) (y < x) → is_lt o ≡ false → y ≤ x
not_less x y Less less is = (let no : true ≡ false = is in cc)
not_less x y Equal same is = omega (arith, same)
not_less x y Greater more is = omega (arith, more)

pub bound_all : (x : ℕ) (xs : List ℕ) → IsUpperBound nat_cmp x xs → AllByRecursion (λ k. k ≤ x) xs
bound_all x [] bound = tt
bound_all x (y ∷ ys) bound = (not_less x y (nat_cmp x y) (ranks x y) bound.0, bound_all x ys bound.1)

-- A place comes in below the greatest, or over it, or is the greatest.
pub joins_below : (greatest place : ℕ) (old new : List ℕ) → IsPermutation (place ∷ old) new → place < greatest
    → AllByRecursion (λ k. k ≤ greatest) old → Joins greatest old place greatest new
joins_below greatest place old new moved less below = record {
  adds = λ k. ap (λ b. (greatest == k) || b) (sym (same_places (place ∷ old) new k moved))
      ∙ swapped (greatest == k) (place == k) (among old k);
  below = all_moved (λ k. k ≤ greatest) (place ∷ old) new moved (omega (arith, less), below);
}

over : (a b : ℕ) (xs : List ℕ) → a ≤ b → AllByRecursion (λ k. k ≤ a) xs → AllByRecursion (λ k. k ≤ b) xs
over a b xs up all = among_all (λ k. k ≤ b) xs (λ k at.
    (let low : k ≤ a = all_among (λ i. i ≤ a) xs k all at in omega (arith, low, up)))

pub joins_above : (greatest place : ℕ) (old new : List ℕ) → IsPermutation (greatest ∷ old) new → greatest < place
    → AllByRecursion (λ k. k ≤ greatest) old → Joins greatest old place place new
joins_above greatest place old new moved less below = record {
  adds = λ k. ap (λ b. (place == k) || b) (sym (same_places (greatest ∷ old) new k moved));
  below = all_moved (λ k. k ≤ place) (greatest ∷ old) new moved
      (omega (arith, less), over greatest place old (omega (arith, less)) below);
}

pub joins_equal : (greatest place : ℕ) (old : List ℕ) → place ≡ greatest → AllByRecursion (λ k. k ≤ greatest) old
    → Joins greatest old place place old
joins_equal greatest place old same below = record {
  adds = λ k. subst (λ g. (place == k) || among old k ≡ (place == k) || ((g == k) || among old k)) same
      (twice (place == k) (among old k));
  below = subst (λ g. AllByRecursion (λ k. k ≤ g) old) (sym same) below;
}

-- Places are popped, each the bound or below it.
pub record PopsSoFar (bound : ℕ) (old now : List ℕ) : Type 0 where
  pub parts : (k : ℕ) → (bound == k) || among old k ≡ (bound == k) || among now k
  pub below : AllByRecursion (λ k. k ≤ bound) now
  pub fewer : length now ≤ length old

pub pops_first : (bound : ℕ) (old : List ℕ) → AllByRecursion (λ k. k ≤ bound) old → PopsSoFar bound old old
pops_first bound old below = record { parts = λ k. refl; below = below; fewer = omega arith }

pub pops_copy : (bound place : ℕ) (old now rest : List ℕ) → PopsSoFar bound old now → IsPermutation now (place ∷ rest)
    → bound ≤ place → PopsSoFar bound old rest
pops_copy bound place old now rest so moved up = record {
  parts = λ k. so.parts k ∙ ap (λ b. (bound == k) || b) (same_places now (place ∷ rest) k moved)
      ∙ ap (λ i. (bound == k) || ((i == k) || among rest k)) same ∙ sym (twice (bound == k) (among rest k));
  below = all.1;
  fewer = (let few = so.fewer in omega (arith, few, length_permutation now (place ∷ rest) moved));
}
  where
    all : AllByRecursion (λ k. k ≤ bound) (place ∷ rest)
    all = all_moved (λ k. k ≤ bound) now (place ∷ rest) moved so.below

    same : place ≡ bound
    same = (let low = all.0 in omega (arith, low, up))

pub pops_next : (bound place : ℕ) (old now rest : List ℕ) → PopsSoFar bound old now → IsPermutation now (place ∷ rest)
    → place < bound → IsUpperBound nat_cmp place now → PopsBelow bound old (Some place) rest
pops_next bound place old now rest so moved less top = record {
  parts = λ k. so.parts k ∙ ap (λ b. (bound == k) || b) (same_places now (place ∷ rest) k moved);
  others = (all_moved (λ k. k ≤ place) now (place ∷ rest) moved (bound_all place now top)).1;
  below = less;
  fewer = (let few = so.fewer in omega (arith, few, length_permutation now (place ∷ rest) moved));
}

pub pops_none : (bound : ℕ) (old now : List ℕ) → PopsSoFar bound old now → now ≡ [] → PopsBelow bound old None now
pops_none bound old now so none = record { parts = so.parts; others = none; below = tt; fewer = so.fewer }

-- The greatest is taken out.
below_found : (bound : ℕ) (found : Option ℕ) (old new : List ℕ) → PopsBelow bound old found new
    → AllByRecursion (λ k. k < bound) (listed found new)
below_found bound None old new pops = subst (AllByRecursion (λ k. k < bound)) (sym pops.others) tt
below_found bound (Some place) old new pops = (
  pops.below,
  among_all (λ k. k < bound) new (λ k at.
      (let low : k ≤ place = all_among (λ i. i ≤ place) new k pops.others at in
      let less = pops.below in omega (arith, low, less))),
)

pub takes_greatest : (place : ℕ) (found : Option ℕ) (old new : List ℕ) → PopsBelow place old found new
    → TakesGreatest (place ∷ old) place (listed found new)
takes_greatest place found old new pops =
    let few = pops.fewer in
    record { parts = pops.parts; below = below_found place found old new pops; fewer = omega (arith, few) }
