-- Lists whose elements are apart: two of them one after the other, the images of one, and one without an element.
use Rattle.std.proofs.Common.{◌≡◌, ◌≢◌, ℕ, zero, suc, ◌<◌, List, [], ◌∷◌, ◌++◌, length, map, refl, sym, ap, ◌∙◌, arith, subst, ⊎_elim, Contains, slice_index_or, length-append}
use Rattle.std.specs.List.{AllPairs, remove}
use Rattle.std.proofs.lemmas.List.{get_or-map, length-map}
use Rattle.std.proofs.lemmas.List.Elements.{Contains-append_cases, Contains-get_or}
use Rattle.std.proofs.lemmas.List.Kept.{AllPairs-cons}
use Rattle.std.proofs.lemmas.List.Quantifiers.{all_pairs_remove}
use Rattle.sat_proof.proofs.ClosedSets.{all_from}

pub only_one : {X : Type 0} (x y : X) → Contains (y ∷ []) x → x ≡ y
only_one x y (zero, less, is) = sym is
only_one x y (suc k, less, is) = absurd (omega (arith, less))

pub one_itself : {X : Type 0} (x : X) → Contains (x ∷ []) x
one_itself x = (0, omega arith, refl)

pub one_apart : {X : Type 0} (R : X → X → Type 0) (x : X) → AllPairs R (x ∷ [])
one_apart R x i j d less within = absurd (omega (arith, less, within))

pub joined_apart : {X : Type 0} (R : X → X → Type 0) (xs ys : List X) → AllPairs R xs → AllPairs R ys
    → ((x y : X) → Contains xs x → Contains ys y → R x y) → AllPairs R (xs ++ ys)
joined_apart R [] ys first second across = second
joined_apart R (x ∷ xs) ys first second across =
    AllPairs-cons R x (xs ++ ys)
    (all_from (R x) (xs ++ ys) (λ y at. ⊎_elim
    (λ (h : Contains xs y). subst (R x) h.2 (first 0 (suc h.0) y (omega arith) (let less = h.1 in omega (arith, less))))
    (λ (h : Contains ys y). across x y (0, omega arith, refl) h) (Contains-append_cases xs ys y at)))
    (joined_apart R xs ys (λ i j d less within. first (suc i) (suc j) d (omega (arith, less)) (omega (arith, within)))
    second (λ a b ina inb. across a b (suc ina.0, (let less = ina.1 in omega (arith, less)), ina.2) inb))

pub mapped_apart : {Y : Type 0} (f : ℕ → Y) (xs : List ℕ) → AllPairs (λ a b. a ≢ b) xs
    → ((a b : ℕ) → Contains xs a → Contains xs b → f a ≡ f b → a ≡ b) → AllPairs (λ a b. a ≢ b) (map f xs)
mapped_apart f xs apart one i j d less within =
    let long = length-map xs f in
    let high : j < length xs = omega (arith, long, within) in
    let low : i < length xs = omega (arith, high, less) in
    λ same. apart i j 0 less high (one (slice_index_or xs i 0) (slice_index_or xs j 0) (Contains-get_or xs i 0 low)
    (Contains-get_or xs j 0 high) (sym (get_or-map f xs i 0 d low) ∙ same ∙ get_or-map f xs j 0 d high))

pub removed_is : {X : Type 0} (xs : List X) (x : X) (ys : List X) → remove (xs ++ x ∷ ys) (length xs) ≡ xs ++ ys
removed_is [] x ys = refl
removed_is (first ∷ xs) x ys = ap (λ zs. first ∷ zs) (removed_is xs x ys)

pub skipped_apart : {X : Type 0} (R : X → X → Type 0) (xs : List X) (x : X) (ys : List X) → AllPairs R (xs ++ x ∷ ys)
    → AllPairs R (xs ++ ys)
skipped_apart R xs x ys apart = subst (AllPairs R) (removed_is xs x ys)
    (all_pairs_remove R (xs ++ x ∷ ys) (length xs) (let long = length-append xs (x ∷ ys) in omega (arith, long)) apart)
