-- Fillings that are joined, and their bits.
use Rattle.std.proofs.Common.{◌≡◌, ℕ, zero, suc, ◌+◌, ◌<◌, ◌≤◌, ◌==◌, ◌&&◌, ◌||◌, not, Bool, true, false, List, [], ◌∷◌, ◌++◌, filter, map, nat_lt, if◌then◌else◌, slice_index_or, refl, sym, ap, ◌∙◌, subst, arith, ⊎_elim}
use Rattle.std.specs.List.{AllByRecursion}
use Rattle.std.specs.List.Sorted.{IsStrictlyIncreasing}
use Rattle.std.proofs.lemmas.Bool.{and_right, cases_eq, eq-eqb, ne_eqb, ltb-true, ltb-false, not-true, lt-ltb}
use Rattle.std.proofs.lemmas.List.Folds.{list_any-append}
use Rattle.decide_nodes.proofs.NodeSources.{first_below, others_rise}
use Rattle.design_circuit.specs.declared.place.Place.{Place}
use Rattle.design_circuit.specs.Filling.{IsFilling, IsPlace, bit_of}
use Rattle.design_circuit.specs.Job.{Job, number_of}
use Rattle.report_blame.specs.Joined.{IsJoined, stands_below, stands_from}

-- Each number stands below all behind it.
abbrev Rises : List ℕ → Type 0
Rises [] = Unit {0}
Rises (x ∷ xs) = AllByRecursion (λ y. x < y) xs × Rises xs

rises : (xs : List ℕ) → IsStrictlyIncreasing xs → Rises xs
rises [] up = tt
rises (x ∷ xs) up = (first_below x xs up, rises xs (others_rise x xs up))

increases : (xs : List ℕ) → Rises xs → IsStrictlyIncreasing xs
increases [] up k less = absurd (omega arith)
increases (x ∷ []) up k less = absurd (omega arith)
increases (x ∷ y ∷ ys) up zero less = up.0.0
increases (x ∷ y ∷ ys) up (suc k) less =
    let same : suc (k + 1) ≡ suc k + 1 = omega arith in
    subst (λ i. slice_index_or (x ∷ y ∷ ys) (suc k) 0 < slice_index_or (x ∷ y ∷ ys) i 0) same
    (increases (y ∷ ys) up.1 k (omega (arith, less)))

all_kept : {X : Type 0} (P : X → Type 0) (t : X → Bool) (xs : List X) → AllByRecursion P xs
    → AllByRecursion P (filter t xs)
all_kept P t [] all = tt
all_kept P t (x ∷ xs) all = by (all_kept P t xs all.1) (t x)
  where
    by : AllByRecursion P (filter t xs) → (b : Bool) → AllByRecursion P (if b then x ∷ filter t xs else filter t xs)
    by rest true = (all.0, rest)
    by rest false = rest

all_pass : {X : Type 0} (t : X → Bool) (xs : List X) → AllByRecursion (λ x. t x ≡ true) (filter t xs)
all_pass t [] = tt
all_pass {X} t (x ∷ xs) = by (all_pass t xs) (t x) refl
  where
    by : AllByRecursion (λ (y : X). t y ≡ true) (filter t xs) → (b : Bool) → t x ≡ b
        → AllByRecursion (λ (y : X). t y ≡ true) (if b then x ∷ filter t xs else filter t xs)
    by rest true is = (is, rest)
    by rest false is = rest

all_both : {X : Type 0} (P : X → Type 0) (xs ys : List X) → AllByRecursion P xs → AllByRecursion P ys
    → AllByRecursion P (xs ++ ys)
all_both P [] ys all others = others
all_both P (x ∷ xs) ys all others = (all.0, all_both P xs ys all.1 others)

all_along : {X : Type 0} (P Q : X → Type 0) (xs : List X) → ((x : X) → P x → Q x) → AllByRecursion P xs
    → AllByRecursion Q xs
all_along P Q [] each all = tt
all_along P Q (x ∷ xs) each all = (each x all.0, all_along P Q xs each all.1)

rises_kept : (t : ℕ → Bool) (xs : List ℕ) → Rises xs → Rises (filter t xs)
rises_kept t [] up = tt
rises_kept t (x ∷ xs) up = by (all_kept (λ y. x < y) t xs up.0) (rises_kept t xs up.1) (t x)
  where
    by : AllByRecursion (λ y. x < y) (filter t xs) → Rises (filter t xs) → (b : Bool)
        → Rises (if b then x ∷ filter t xs else filter t xs)
    by first rest true = (first, rest)
    by first rest false = rest

rises_both : (cut : ℕ) (xs ys : List ℕ) → Rises xs → Rises ys → AllByRecursion (λ x. x < cut) xs
    → AllByRecursion (λ y. cut ≤ y) ys → Rises (xs ++ ys)
rises_both cut [] ys up more below from = more
rises_both cut (x ∷ xs) ys up more below from = (
  all_both (λ y. x < y) xs ys up.0
      (all_along (λ y. cut ≤ y) (λ y. x < y) ys (λ y high. (let low = below.0 in omega (arith, high, low))) from),
  rises_both cut xs ys up.1 more below.1 from,
)

kept_numbers : (j : Job) (t : ℕ → Bool) (ps : List Place)
    → map (number_of j) (filter (λ p. t (number_of j p)) ps) ≡ filter t (map (number_of j) ps)
kept_numbers j t [] = refl
kept_numbers j t (p ∷ ps) = by (kept_numbers j t ps) (t (number_of j p))
  where
    by : map (number_of j) (filter (λ q. t (number_of j q)) ps) ≡ filter t (map (number_of j) ps) → (b : Bool)
        → map (number_of j) (if b then p ∷ filter (λ q. t (number_of j q)) ps else filter (λ q. t (number_of j q)) ps)
        ≡ (if b then number_of j p ∷ filter t (map (number_of j) ps) else filter t (map (number_of j) ps))
    by rest true = ap (λ ns. number_of j p ∷ ns) rest
    by rest false = rest

numbers_both : (j : Job) (ps qs : List Place) → map (number_of j) (ps ++ qs) ≡ map (number_of j) ps ++ map (number_of j) qs
numbers_both j [] qs = refl
numbers_both j (p ∷ ps) qs = ap (λ ns. number_of j p ∷ ns) (numbers_both j ps qs)

kept_one : (n k : ℕ) (t : ℕ → Bool) (b : Bool) → t n ≡ true
    → ((n == k) || (t k && b)) ≡ (t k && ((n == k) || b))
kept_one n k t b is = ⊎_elim
    (λ (same : n ≡ k). subst (λ i. ((n == i) || (t i && b)) ≡ (t i && ((n == i) || b))) same
    (rw (eq-eqb n n refl, is) refl))
    (λ (other : n ≡ k → ⊥). rw (ne_eqb n k other) refl) (cases_eq n k)

left_one : (n k : ℕ) (t : ℕ → Bool) (b : Bool) → t n ≡ false → (t k && b) ≡ (t k && ((n == k) || b))
left_one n k t b is = ⊎_elim
    (λ (same : n ≡ k). subst (λ i. (t i && b) ≡ (t i && ((n == i) || b))) same (rw is refl))
    (λ (other : n ≡ k → ⊥). rw (ne_eqb n k other) refl) (cases_eq n k)

kept_bit : (j : Job) (t : ℕ → Bool) (ps : List Place) (k : ℕ)
    → bit_of j (filter (λ p. t (number_of j p)) ps) k ≡ (t k && bit_of j ps k)
kept_bit j t [] k = sym (and_right (t k) false refl)
kept_bit j t (p ∷ ps) k = by (kept_bit j t ps k) (t (number_of j p)) refl
  where
    by : bit_of j (filter (λ q. t (number_of j q)) ps) k ≡ (t k && bit_of j ps k) → (b : Bool) → t (number_of j p) ≡ b
        → bit_of j (if b then p ∷ filter (λ q. t (number_of j q)) ps else filter (λ q. t (number_of j q)) ps) k
        ≡ (t k && ((number_of j p == k) || bit_of j ps k))
    by rest true is = ap (λ bit. (number_of j p == k) || bit) rest
        ∙ kept_one (number_of j p) k t (bit_of j ps k) is
    by rest false is = rest ∙ left_one (number_of j p) k t (bit_of j ps k) is

-- The bits of the parts, and which of them counts.
parts : (a b one zeros : Bool) → (b ≡ true → a ≡ true)
    → ((b && one) || (not a && zeros)) ≡ (if b then one else if a then false else zeros)
parts a false one zeros order = by a
  where
    by : (a : Bool) → (not a && zeros) ≡ (if a then false else zeros)
    by true = refl
    by false = refl
parts a true one zeros order = rw (order refl) (last one)
  where
    last : (x : Bool) → (x || false) ≡ x
    last true = refl
    last false = refl

below_from : (k below from : ℕ) → below ≤ from → nat_lt k below ≡ true → nat_lt k from ≡ true
below_from k below from order less = lt-ltb k from (let low = ltb-true k below less in omega (arith, low, order))

-- The places of one filling below a number, and then those of another from a number on, are joined.
pub are_joined : (j : Job) (one : List Place) (below : ℕ) (zeros : List Place) (from : ℕ) → IsFilling j one
    → IsFilling j zeros → below ≤ from
    → IsJoined j one below zeros from (filter (stands_below j below) one ++ filter (stands_from j from) zeros)
are_joined j one below zeros from one_is zero_is order =
    let low = filter (stands_below j below) one in
    let high = filter (stands_from j from) zeros in
    let low_numbers : map (number_of j) low ≡ filter (λ n. nat_lt n below) (map (number_of j) one) =
    kept_numbers j (λ n. nat_lt n below) one in
    let high_numbers : map (number_of j) high ≡ filter (λ n. not (nat_lt n from)) (map (number_of j) zeros) =
    kept_numbers j (λ n. not (nat_lt n from)) zeros in
    record {
      is_filling = record {
        places = all_both (IsPlace j) low high (all_kept (IsPlace j) (stands_below j below) one one_is.places)
            (all_kept (IsPlace j) (stands_from j from) zeros zero_is.places);
        ascending = subst IsStrictlyIncreasing (sym (numbers_both j low high))
            (increases (map (number_of j) low ++ map (number_of j) high)
            (rises_both from (map (number_of j) low) (map (number_of j) high)
            (subst Rises (sym low_numbers)
            (rises_kept (λ n. nat_lt n below) (map (number_of j) one) (rises _ one_is.ascending)))
            (subst Rises (sym high_numbers)
            (rises_kept (λ n. not (nat_lt n from)) (map (number_of j) zeros) (rises _ zero_is.ascending)))
            (subst (AllByRecursion (λ n. n < from)) (sym low_numbers)
            (all_along (λ n. nat_lt n below ≡ true) (λ n. n < from) _
            (λ n less. (let low = ltb-true n below less in omega (arith, low, order)))
            (all_pass (λ n. nat_lt n below) (map (number_of j) one))))
            (subst (AllByRecursion (λ n. from ≤ n)) (sym high_numbers)
            (all_along (λ n. not (nat_lt n from) ≡ true) (λ n. from ≤ n) _
            (λ n more. ltb-false n from (not-true (nat_lt n from) more))
            (all_pass (λ n. not (nat_lt n from)) (map (number_of j) zeros))))));
      };
      bits = λ k. list_any-append (λ p. number_of j p == k) low high
          ∙ ap (λ b. b || bit_of j high k) (kept_bit j (λ n. nat_lt n below) one k)
          ∙ ap (λ b. (nat_lt k below && bit_of j one k) || b) (kept_bit j (λ n. not (nat_lt n from)) zeros k)
          ∙ parts (nat_lt k from) (nat_lt k below) (bit_of j one k) (bit_of j zeros k) (below_from k below from order);
    }
