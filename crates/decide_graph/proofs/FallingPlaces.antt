-- Places that fall, the greatest first.
use Rattle.std.proofs.Common.{◌≡◌, ℕ, zero, suc, ◌<◌, ◌==◌, ◌||◌, Bool, true, false, List, [], ◌∷◌, ◌++◌, reverse, if◌then◌else◌, refl, sym, ap, ◌∙◌, subst, arith, ◌⊎◌, inl, inr, ⊎_elim}
use Rattle.std.specs.List.{AllByRecursion}
use Rattle.std.proofs.lemmas.Bool.{cases_eq, eq-eqb, eqb-true, or_cases}
use Rattle.std.proofs.lemmas.List.{reverse-append}
use Rattle.std.proofs.lemmas.List.Folds.{list_any-append}
use Rattle.law_model.specs.Places.{among, places_where}
use Rattle.law_model.proofs.PlacesWhere.{all_among, among_all, or_left, or_right}
use Rattle.decide_graph.specs.Reached.{IsFalling}

-- Membership in a list with one more place at its end.
pub among_push : (places : List ℕ) (place k : ℕ) → among (places ++ place ∷ []) k ≡ among places k || (place == k)
among_push places place k = list_any-append (λ i. i == k) places (place ∷ []) ∙ ap (λ b. among places k || b) (one (place == k))
  where
    one : (b : Bool) → b || false ≡ b
    one true = refl
    one false = refl

pub in_push : (places : List ℕ) (place k : ℕ) → among (places ++ place ∷ []) k ≡ true → (among places k ≡ true) ⊎ (place ≡ k)
in_push places place k at =
    ⊎_elim (λ (e : among places k ≡ true). inl e) (λ (e : (place == k) ≡ true). inr (eqb-true place k e))
    (or_cases (among places k) (place == k) (sym (among_push places place k) ∙ at))

pub push_old : (places : List ℕ) (place k : ℕ) → among places k ≡ true → among (places ++ place ∷ []) k ≡ true
push_old places place k at = among_push places place k ∙ or_left (among places k) (place == k) at

pub push_new : (places : List ℕ) (place : ℕ) → among (places ++ place ∷ []) place ≡ true
push_new places place = among_push places place place ∙ or_right (among places place) (place == place) (eq-eqb place place refl)

pub falls_push : (places : List ℕ) (k : ℕ) → IsFalling places → AllByRecursion (λ p. k < p) places
    → IsFalling (places ++ k ∷ [])
falls_push [] k falls above = (tt, tt)
falls_push (p ∷ ps) k falls above = (all_push ps falls.0, falls_push ps k falls.1 above.1)
  where
    all_push : (qs : List ℕ) → AllByRecursion (λ q. q < p) qs → AllByRecursion (λ q. q < p) (qs ++ k ∷ [])
    all_push [] all = (above.0, tt)
    all_push (q ∷ qs) all = (all.0, all_push qs all.1)

abbrev pub Members : (ℕ → Bool) → ℕ → List ℕ → Type 0
Members test n places = (k : ℕ) → k < n → among places k ≡ test k

abbrev pub IsReversed : (ℕ → Bool) → ℕ → Type 0
IsReversed test n = (places : List ℕ) → IsFalling places → AllByRecursion (λ k. k < n) places → Members test n places
    → reverse places ≡ places_where test n

below_all : (places : List ℕ) (a b : ℕ) → a ≡ b → AllByRecursion (λ k. k < a) places
    → AllByRecursion (λ k. k < b) places
below_all places a b same all = subst (λ n. AllByRecursion (λ k. k < n) places) same all

not_same : (n k : ℕ) → k < n → (n == k) ≡ false
not_same n k less = grind arith

falling_last : (n : ℕ) (test : ℕ → Bool) → IsReversed test n → (places : List ℕ) → IsFalling places
    → AllByRecursion (λ k. k < suc n) places → Members test (suc n) places → test n ≡ true
    → reverse places ≡ places_where test (suc n)
falling_last n test reversed [] falls low same holds =
    let no : false ≡ true = same n (omega arith) ∙ holds in cc
falling_last n test reversed (p ∷ ps) falls low same holds =
    reverse-append (p ∷ []) ps ∙ ap (λ xs. xs ++ p ∷ []) (reversed ps falls.1 (below_all ps p n first falls.0) rest)
    ∙ ap (λ k. places_where test n ++ k ∷ []) first ∙ sym (ap (λ b. if b then places_where test n ++ n ∷ [] else places_where test n) holds)
  where
    first : p ≡ n
    first = ⊎_elim (λ (e : (p == n) ≡ true). eqb-true p n e)
        (λ (e : among ps n ≡ true). (let up : n < p = all_among (λ k. k < p) ps n falls.0 e in
        let down = low.0 in absurd (omega arith)))
        (or_cases (p == n) (among ps n) (same n (omega arith) ∙ holds))

    rest : Members test n ps
    rest k less = sym (ap (λ b. b || among ps k) (not_same p k (let at = first in omega (arith, at, less))))
        ∙ same k (omega (arith, less))

falling_skips : (n : ℕ) (test : ℕ → Bool) → IsReversed test n → (places : List ℕ) → IsFalling places
    → AllByRecursion (λ k. k < suc n) places → Members test (suc n) places → test n ≡ false
    → reverse places ≡ places_where test (suc n)
falling_skips n test reversed places falls low same none =
    reversed places falls (among_all (λ k. k < n) places lower) (λ k less. same k (omega (arith, less)))
    ∙ sym (ap (λ b. if b then places_where test n ++ n ∷ [] else places_where test n) none)
  where
    lower : (k : ℕ) → among places k ≡ true → k < n
    lower k at =
        let up : k < suc n = all_among (λ i. i < suc n) places k low at in
        ⊎_elim (λ (e : k ≡ n). (let no : true ≡ false = sym (subst (λ i. among places i ≡ true) e at)
        ∙ same n (omega arith) ∙ none in cc))
        (λ (e : k ≡ n → ⊥). omega arith) (cases_eq k n)

-- Falling places with the members of a test are those at which it holds, reversed.
pub falling_is : (n : ℕ) (test : ℕ → Bool) → IsReversed test n
falling_is zero test [] falls low same = refl
falling_is zero test (p ∷ ps) falls low same = absurd (let none = low.0 in omega arith)
falling_is (suc n) test places falls low same =
    ⊎_elim (λ (e : test n ≡ true). falling_last n test (falling_is n test) places falls low same e)
    (λ (e : test n ≡ false). falling_skips n test (falling_is n test) places falls low same e) (by_bool (test n))
  where
    by_bool : (b : Bool) → (b ≡ true) ⊎ (b ≡ false)
    by_bool true = inl refl
    by_bool false = inr refl
