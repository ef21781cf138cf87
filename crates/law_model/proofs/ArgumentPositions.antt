-- Minimal choices by the positions of the arguments, as code finds them in a list of values.
use Rattle.std.proofs.Common.{◌≡◌, ℕ, zero, suc, ◌≤◌, ◌&&◌, Bool, true, false, List, [], ◌∷◌, ◌++◌, map, take, length, refl, sym, ap, ◌∙◌, arith, inl, inr, slice_index_or}
use Rattle.std.specs.List.{AllByRecursion}
use Rattle.std.specs.List.Sorted.{IsStrictlyIncreasing}
use Rattle.std.proofs.Math.Seq.{take-suc, take-length}
use Rattle.std.proofs.lemmas.Bool.{and_parts, and_from}
use Rattle.std.proofs.lemmas.Bool.Decides.{eqb_tells}
use Rattle.std.proofs.lemmas.List.{map-append}
use Rattle.std.proofs.lemmas.List.Elements.{Contains-get_or}
use Rattle.design_cell.specs.declared.value.Value.{Value}
use Rattle.design_cell.specs.declared.value.Value.TheVariants.{X}
use Rattle.design_circuit.specs.Order.{position_of}
use Rattle.law_model.specs.Places.{among}
use Rattle.law_model.specs.Assignment.{with_bit}
use Rattle.law_model.specs.Query.{IsChoice}
use Rattle.law_model.specs.Mask.{mask_of}
use Rattle.law_model.specs.Node.{upto, table_of}
use Rattle.law_model.proofs.FoundFillings.{mask_map}
use Rattle.law_model.proofs.MinimalChoices.{still}
use Rattle.law_model.proofs.ConeModels.{position_rises, found_at, found_within}
use Rattle.law_model.proofs.PlacesWhere.{among_contains, contains_among, in_picked, picked_in, among_all}

-- Two lists of arguments with tables that are one up to names.
pub record Matches (a b : List ℕ) (table other : (ℕ → Bool) → Value) : Type 0 where
  pub to : ℕ → ℕ
  pub from : ℕ → ℕ
  pub to_in : (k : ℕ) → among b k ≡ true → among a (to k) ≡ true
  pub from_in : (k : ℕ) → among a k ≡ true → among b (from k) ≡ true
  pub back : (k : ℕ) → among a k ≡ true → to (from k) ≡ k
  pub forth : (k : ℕ) → among b k ≡ true → from (to k) ≡ k
  pub there : (f : ℕ → Bool) → table f ≡ other (λ k. f (to k))
  pub here : (f : ℕ → Bool) → other f ≡ table (λ k. f (from k))

pub turned : (a b : List ℕ) (table other : (ℕ → Bool) → Value) → Matches a b table other → Matches b a other table
turned a b table other m = record {
  to = m.from;
  from = m.to;
  to_in = m.from_in;
  from_in = m.to_in;
  back = m.forth;
  forth = m.back;
  there = m.here;
  here = m.there;
}

kept_apart : (chosen : ℕ → Bool) (k i : ℕ) → chosen i ≡ true → (i ≡ k → ⊥) → with_bit k false chosen i ≡ true
kept_apart chosen k i taken apart = elim (eqb_tells i k) as (λ _. with_bit k false chosen i ≡ true) [
  | inl p ↦ absurd (apart p.1)
  | inr p ↦ rw p.0 taken
]

left_out : (chosen : ℕ → Bool) (k i : ℕ) → with_bit k false chosen i ≡ true → i ≡ k → ⊥
left_out chosen k i taken same = elim (eqb_tells i k) as (λ _. ⊥) [
  | inl p ↦ (let e : false ≡ true = rw p.0 at taken in cc)
  | inr p ↦ p.1 same
]

-- A minimal choice of the first is one of the second.
pub choice_matched : (a b : List ℕ) (table other : (ℕ → Bool) → Value) (m : Matches a b table other)
    (chosen bits : ℕ → Bool) (bit : Bool) → IsChoice a table chosen bits bit
    → IsChoice b other (λ k. among b k && chosen (m.to k)) (λ k. bits (m.to k)) bit
choice_matched a b table other m chosen bits bit is = record {
  among_arguments = λ k taken. (and_parts (among b k) (chosen (m.to k)) taken).0;
  forces = λ others agree. m.here others ∙ is.forces (λ k. others (m.from k))
      (λ k taken. agree (m.from k) (and_from (among b (m.from k)) _ (m.from_in k (is.among_arguments k taken))
      (ap chosen (m.back k (is.among_arguments k taken)) ∙ taken)) ∙ ap bits (m.back k (is.among_arguments k taken)));
  minimal = λ k taken forced. (let parts = and_parts (among b k) (chosen (m.to k)) taken in is.minimal (m.to k) parts.1
      (λ others agree. m.there others ∙ forced (λ i. others (m.to i))
      (λ i kept. (let own = and_parts (among b i) (chosen (m.to i))
      (still (λ n. among b n && chosen (m.to n)) k i kept) in agree (m.to i)
      (kept_apart chosen (m.to k) (m.to i) own.1
      (λ e. left_out (λ n. among b n && chosen (m.to n)) k i kept
      (sym (m.forth i own.0) ∙ ap m.from e ∙ m.forth k parts.0)))))));
}

pub mask_same : (places : List ℕ) (f g : ℕ → Bool) → AllByRecursion (λ k. f k ≡ g k) places
    → mask_of places f ≡ mask_of places g
mask_same [] f g same = refl
mask_same (p ∷ ps) f g same = rw (same.0, mask_same ps f g same.1) refl

pub upto_take : (xs : List ℕ) (n : ℕ) → n ≤ length xs → map (λ p. slice_index_or xs p 0) (upto n) ≡ take n xs
upto_take xs zero within = refl
upto_take xs (suc n) within = map-append (λ p. slice_index_or xs p 0) (upto n) (n ∷ [])
    ∙ ap (λ ys. ys ++ slice_index_or xs n 0 ∷ []) (upto_take xs n (omega arith)) ∙ sym (take-suc xs n 0 (omega arith))

-- The values of a rule's table, told by positions.
pub values_match : (arguments : List ℕ) (values : List Value) (table : (ℕ → Bool) → Value)
    → IsStrictlyIncreasing arguments → ((bits : ℕ → Bool)
    → slice_index_or values (mask_of arguments bits) X ≡ table bits)
    → Matches arguments (upto (length arguments)) table (table_of values (length arguments))
values_match arguments values table rises are = record {
  to = at;
  from = position_of arguments;
  to_in = λ k inside. among_contains arguments (at k)
      (Contains-get_or arguments k 0 (in_picked (λ i. true) n k inside).0);
  from_in = λ k inside. picked_in (λ i. true) n (position_of arguments k)
      (found_within arguments k (contains_among arguments k inside)) refl;
  back = λ k inside. found_at arguments k (contains_among arguments k inside);
  forth = λ k inside. position_rises arguments k rises (in_picked (λ i. true) n k inside).0;
  there = there;
  here = λ f. ap (λ number. slice_index_or values number X)
      (mask_same (upto n) f (λ k. f (position_of arguments (at k)))
      (among_all _ (upto n) (λ k inside. ap f (sym (position_rises arguments k rises
      (in_picked (λ i. true) n k inside).0))))) ∙ sym (there (λ k. f (position_of arguments k)));
}
  where
    n : ℕ
    n = length arguments

    at : ℕ → ℕ
    at p = slice_index_or arguments p 0

    there : (f : ℕ → Bool) → table f ≡ table_of values n (λ k. f (at k))
    there f = sym (are f) ∙ ap (λ number. slice_index_or values number X)
        (ap (λ xs. mask_of xs f) (sym all) ∙ sym (mask_map at (upto n) f (λ k. f (at k))
        (among_all _ (upto n) (λ k inside. refl))))
      where
        all : map at (upto n) ≡ arguments
        all = upto_take arguments (length arguments) (omega arith) ∙ take-length arguments
