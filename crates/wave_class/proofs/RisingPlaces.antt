-- Places in place order and without doubles.
use Rattle.std.proofs.Common.{◌≡◌, ℕ, zero, suc, ◌+◌, ◌<◌, ◌≤◌, ◌==◌, ◌&&◌, ◌||◌, Bool, cond, true, false, List, []}
use Rattle.std.proofs.Common.{◌∷◌, ◌++◌, length, filter, if◌then◌else◌, refl, sym, ap, ◌∙◌, arith, ◌⊎◌, ⊎_elim}
use Rattle.std.proofs.Common.{length-append}
use Rattle.std.specs.List.{AllByRecursion}
use Rattle.std.proofs.lemmas.Bool.{cases_eq, eqb-true}
use Rattle.law_model.specs.Places.{among, places_where}
use Rattle.law_model.proofs.PlacesWhere.{all_among}

-- Between two bounds with no place that passes, nothing is listed.
pub gap : (test : ℕ → Bool) (a b : ℕ) → a ≤ b → ((k : ℕ) → a ≤ k → k < b → test k ≡ false)
    → places_where test a ≡ places_where test b
gap test a zero up none = let same : a ≡ zero = omega arith in rw same refl
gap test a (suc b) up none =
    ⊎_elim (λ (same : a ≡ suc b). (rw same refl))
    (λ (other : a ≡ suc b → ⊥). (let last : test b ≡ false = none b (omega arith) (omega arith) in
    rw last (gap test a b (omega arith) (λ k low less. none k low (omega arith)))))
    (cases_eq a (suc b))

-- The least place from a bound on comes next.
pub found : (test : ℕ → Bool) (bound least : ℕ) → bound ≤ least → test least ≡ true
    → ((k : ℕ) → bound ≤ k → k < least → test k ≡ false)
    → places_where test (least + 1) ≡ places_where test bound ++ least ∷ []
found test bound least up passes none =
    let next : least + 1 ≡ suc least = omega arith in
    let same = gap test bound least up none in
    rw (next, passes, same) refl

-- Where no place from either bound on passes, both list the same.
pub both_end : (test : ℕ → Bool) (a b : ℕ) → ((k : ℕ) → a ≤ k → test k ≡ false) → ((k : ℕ) → b ≤ k → test k ≡ false)
    → places_where test a ≡ places_where test b
both_end test a b after_a after_b = ⊎_elim
    (λ (up : a ≤ b). gap test a b up (λ k low less. after_a k low))
    (λ (down : b < a). sym (gap test b a (omega arith) (λ k low less. after_b k low)))
    (order a b)
  where
    order : (a b : ℕ) → (a ≤ b) ⊎ (b < a)
    order a b = grind arith

pub none_after : (places : List ℕ) (n k : ℕ) → AllByRecursion (λ i. i < n) places → n ≤ k → among places k ≡ false
none_after places n k below up = not_true (among places k)
    (λ inside. (let low : k < n = all_among (λ i. i < n) places k below inside in omega arith))
  where
    not_true : (b : Bool) → (b ≡ true → ⊥) → b ≡ false
    not_true false h = refl
    not_true true h = absurd (h refl)

pushed_long : (b : Bool) (xs : List ℕ) (n : ℕ) → length (if b then xs ++ n ∷ [] else xs) ≡ length xs + cond b 1 0
pushed_long true xs n = length-append xs (n ∷ [])
pushed_long false xs n = omega arith

record AtMostOneMore (n p more plain : ℕ) : Type 0 where
  pub before : n ≤ p → more ≤ plain
  pub any : more ≤ plain + 1

one_step : (here passes : Bool) (n p more plain : ℕ) → (here ≡ true → p ≡ n) → AtMostOneMore n p more plain
    → AtMostOneMore (suc n) p (more + cond (here || passes) 1 0) (plain + cond passes 1 0)
one_step true passes n p more plain is so =
    let same : p ≡ n = is refl in
    let low : more ≤ plain = so.before (omega arith) in
    record { before = λ less. absurd (omega arith); any = omega arith }
one_step false true n p more plain is so =
    let any = so.any in
    record { before = λ less. (let low : more ≤ plain = so.before (omega arith) in omega arith); any = omega arith }
one_step false false n p more plain is so =
    let any = so.any in
    record { before = λ less. (let low : more ≤ plain = so.before (omega arith) in omega arith); any = omega arith }

one_more : (test : ℕ → Bool) (p n : ℕ) → AtMostOneMore n p (length (places_where (λ k. (p == k) || test k) n))
    (length (places_where test n))
one_more test p zero = record { before = λ low. omega arith; any = omega arith }
one_more test p (suc n) =
    rw (
      pushed_long ((p == n) || test n) (places_where (λ k. (p == k) || test k) n) n,
      pushed_long (test n) (places_where test n) n,
    )
    (one_step (p == n) (test n) n p _ _ (λ same. eqb-true p n same) (one_more test p n))

-- No more places are listed than there are.
pub few_picked : (places : List ℕ) (n : ℕ) → length (places_where (among places) n) ≤ length places
few_picked [] n = let none = gap (among []) 0 n (omega arith) (λ k low less. refl) in rw (← none) (omega arith)
few_picked (p ∷ ps) n =
    let ih = few_picked ps n in
    let more = (one_more (among ps) p n).any in
    omega (arith, ih, more)

kept_among : (passes here rest other : Bool) → (here ≡ true → other ≡ passes)
    → (cond passes (here || (rest && other)) (rest && other)) ≡ (here || rest) && other
kept_among true true rest other same = sym (same refl)
kept_among true false rest other same = refl
kept_among false true false other same = sym (same refl)
kept_among false true true other same = refl
kept_among false false rest other same = refl

among_kept : (passes : Bool) (p : ℕ) (xs : List ℕ) (k : ℕ)
    → among (cond passes (p ∷ xs) xs) k ≡ cond passes ((p == k) || among xs k) (among xs k)
among_kept true p xs k = refl
among_kept false p xs k = refl

-- A place is among those that pass where it is among all and passes.
pub among_filter : (test : ℕ → Bool) (places : List ℕ) (k : ℕ)
    → among (filter test places) k ≡ among places k && test k
among_filter test [] k = refl
among_filter test (p ∷ ps) k =
    among_kept (test p) p (filter test ps) k
    ∙ rw (among_filter test ps k)
    (kept_among (test p) (p == k) (among ps k) (test k) (λ same. ap test (sym (eqb-true p k same))))

pub all_filter : (P : ℕ → Type 0) (test : ℕ → Bool) (places : List ℕ) → AllByRecursion P places
    → AllByRecursion P (filter test places)
all_filter P test [] all = tt
all_filter P test (p ∷ ps) all = one (test p) (all_filter P test ps all.1)
  where
    one : (passes : Bool) → AllByRecursion P (filter test ps)
        → AllByRecursion P (cond passes (p ∷ filter test ps) (filter test ps))
    one true rest = (all.0, rest)
    one false rest = rest

pub all_below : (places : List ℕ) (a b : ℕ) → a ≤ b → AllByRecursion (λ k. k < a) places
    → AllByRecursion (λ k. k < b) places
all_below [] a b up all = tt
all_below (p ∷ ps) a b up all = (omega (arith, all.0), all_below ps a b up all.1)
