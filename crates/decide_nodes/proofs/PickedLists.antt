-- Elements that pass a test, their positions, and choices among them.
use Rattle.std.proofs.Common.{◌≡◌, ℕ, zero, suc, ◌+◌, ◌<◌, ◌&&◌, Bool, true, false, cond, List, [], ◌∷◌, ◌++◌, filter, length, map, take, refl, sym, ap, ◌∙◌, arith, length-append, if◌then◌else◌, slice_index_or, subst, ⊎_elim, add-one, append-nil}
use Rattle.std.proofs.lemmas.List.{length-take-le, take_more, take-append-le, length-map, map-append}
use Rattle.std.proofs.Math.Seq.{take-length}
use Rattle.std.proofs.lemmas.Bool.{cases_eq}
use Rattle.std.proofs.Math.ListN.{get_or-append}
use Rattle.std.proofs.Math.Seq.{get_or-append_seam}
use Rattle.design_circuit.specs.declared.place.Place.{Place}
use Rattle.law_model.specs.Places.{places_where}
use Rattle.decide_nodes.specs.Nodes.{chosen}

-- Where the elements of two lists pass in the same positions, and are the same seen through two functions, those that
-- pass are.
pub filters_match : {A B C : Type 0} (f : A → C) (g : B → C) (t : A → Bool) (u : B → Bool) (d : A) (e : B) (xs : List A)
    (ys : List B) → map f xs ≡ map g ys
    → ((p : ℕ) → p < length xs → t (slice_index_or xs p d) ≡ u (slice_index_or ys p e))
    → map f (filter t xs) ≡ map g (filter u ys)
filters_match f g t u d e [] [] same tests = refl
filters_match f g t u d e [] (y ∷ ys) same tests = cc
filters_match f g t u d e (x ∷ xs) [] same tests = cc
filters_match f g t u d e (x ∷ xs) (y ∷ ys) same tests = step (t x) (u y) (tests 0 (omega arith))
    (filters_match f g t u d e xs ys (cc) (λ p less. tests (suc p) (omega arith)))
  where
    step : (a b : Bool) → a ≡ b → map f (filter t xs) ≡ map g (filter u ys)
        → map f (cond a (x ∷ filter t xs) (filter t xs)) ≡ map g (cond b (y ∷ filter u ys) (filter u ys))
    step true true e ih = let first : f x ≡ g y = cc in cc
    step false false e ih = ih
    step true false e ih = cc
    step false true e ih = cc

-- The element at a position that passes stands, among those that pass, behind those before it.
pub filter_position : {A : Type 0} (t : A → Bool) (d : A) (xs : List A) (p : ℕ) → p < length xs
    → t (slice_index_or xs p d) ≡ true
    → slice_index_or (filter t xs) (length (filter t (take p xs))) d ≡ slice_index_or xs p d
filter_position t d [] p less passes = absurd (omega arith)
filter_position t d (x ∷ xs) zero less passes = rw passes refl
filter_position t d (x ∷ xs) (suc p) less passes = step (t x) (filter_position t d xs p (omega arith) passes)
  where
    step : (a : Bool) → slice_index_or (filter t xs) (length (filter t (take p xs))) d ≡ slice_index_or xs p d
        → slice_index_or (cond a (x ∷ filter t xs) (filter t xs))
        (length (cond a (x ∷ filter t (take p xs)) (filter t (take p xs)))) d
        ≡ slice_index_or xs p d
    step true ih = ih
    step false ih = ih

filter_append : {A : Type 0} (t : A → Bool) (xs ys : List A) → filter t (xs ++ ys) ≡ filter t xs ++ filter t ys
filter_append t [] ys = refl
filter_append t (x ∷ xs) ys = step (t x) (filter_append t xs ys)
  where
    step : (a : Bool) → filter t (xs ++ ys) ≡ filter t xs ++ filter t ys
        → cond a (x ∷ filter t (xs ++ ys)) (filter t (xs ++ ys)) ≡ cond a (x ∷ filter t xs) (filter t xs) ++ filter t ys
    step true ih = ap (λ zs. x ∷ zs) ih
    step false ih = ih

-- The places at which two tests hold are those of the first at which the second does.
pub places_both : (s t : ℕ → Bool) (n : ℕ) → places_where (λ p. s p && t p) n ≡ filter t (places_where s n)
places_both s t zero = refl
places_both s t (suc n) = step (s n) (t n) refl (places_both s t n)
  where
    step : (a b : Bool) → t n ≡ b → places_where (λ p. s p && t p) n ≡ filter t (places_where s n)
        → (if a && b then places_where (λ p. s p && t p) n ++ n ∷ [] else places_where (λ p. s p && t p) n)
        ≡ filter t (if a then places_where s n ++ n ∷ [] else places_where s n)
    step true true is ih = rw (ih, filter_append) (rw is refl)
    step true false is ih = rw (ih, filter_append) (rw is (sym (append-nil (filter t (places_where s n)))))
    step false b is ih = ih

-- Those before one of the places at which a test holds.
pub take_places : (t : ℕ → Bool) (n p : ℕ) → p < length (places_where t n)
    → take p (places_where t n) ≡ places_where t (slice_index_or (places_where t n) p 0)
take_places t zero p less = absurd (omega arith)
take_places t (suc n) p less = step (t n) (take_places t n) less
  where
    xs : List ℕ
    xs = places_where t n

    step : (a : Bool) → ((q : ℕ) → q < length xs → take q xs ≡ places_where t (slice_index_or xs q 0))
        → p < length (if a then xs ++ n ∷ [] else xs)
        → take p (if a then xs ++ n ∷ [] else xs) ≡ places_where t (slice_index_or (if a then xs ++ n ∷ [] else xs) p 0)
    step false ih low = ih p low
    step true ih low = ⊎_elim
        (λ (last : p ≡ length xs). (let whole : take (length xs) (xs ++ n ∷ []) ≡ xs =
        take-append-le (length xs) xs (n ∷ []) (omega arith) ∙ take-length xs in
        let seam : slice_index_or (xs ++ n ∷ []) (length xs) 0 ≡ n = get_or-append_seam xs n [] 0 in
        rw (last, whole, seam) refl))
        (λ (other : p ≡ length xs → ⊥). (let long : length (xs ++ n ∷ []) ≡ length xs + 1 = length-append xs (n ∷ []) in
        let inner : p < length xs = omega (arith, long, low, other) in
        take-append-le p xs (n ∷ []) (omega (arith, inner)) ∙ ih p inner
        ∙ ap (places_where t) (sym (get_or-append xs (n ∷ []) 0 p inner)))) (cases_eq p (length xs))

pub chosen_append : (xs : List Place) (y : Place) (bits : ℕ → Bool)
    → chosen (xs ++ y ∷ []) bits ≡ chosen xs bits ++ (if bits (length xs) then y ∷ [] else [])
chosen_append [] y bits = refl
chosen_append (x ∷ xs) y bits = step (bits 0) (subst (λ k. chosen (xs ++ y ∷ []) (λ k. bits (k + 1))
    ≡ chosen xs (λ k. bits (k + 1)) ++ (if bits k then y ∷ [] else [])) (add-one (length xs))
    (chosen_append xs y (λ k. bits (k + 1))))
  where
    step : (a : Bool) → chosen (xs ++ y ∷ []) (λ k. bits (k + 1))
        ≡ chosen xs (λ k. bits (k + 1)) ++ (if bits (suc (length xs)) then y ∷ [] else [])
        → (if a then x ∷ chosen (xs ++ y ∷ []) (λ k. bits (k + 1)) else chosen (xs ++ y ∷ []) (λ k. bits (k + 1)))
        ≡ (if a then x ∷ chosen xs (λ k. bits (k + 1)) else chosen xs (λ k. bits (k + 1)))
        ++ (if bits (suc (length xs)) then y ∷ [] else [])
    step true ih = ap (λ zs. x ∷ zs) ih
    step false ih = ih

-- Of the places at which a test holds, those whose bits, counted along the places, are 1.
pub chosen_places : (f : ℕ → Place) (t : ℕ → Bool) (bits : ℕ → Bool) (n : ℕ)
    → chosen (map f (places_where t n)) bits
    ≡ map f (places_where (λ p. t p && bits (length (places_where t p))) n)
chosen_places f t bits zero = refl
chosen_places f t bits (suc n) = step (t n) (bits (length xs)) refl (chosen_places f t bits n)
  where
    xs : List ℕ
    xs = places_where t n

    ys : List ℕ
    ys = places_where (λ p. t p && bits (length (places_where t p))) n

    push : (b : Bool) → bits (length xs) ≡ b → chosen (map f xs) bits ≡ map f ys
        → chosen (map f (xs ++ n ∷ [])) bits ≡ map f ys ++ (if b then f n ∷ [] else [])
    push b is ih = ap (λ zs. chosen zs bits) (map-append f xs (n ∷ [])) ∙ chosen_append (map f xs) (f n) bits
        ∙ rw (length-map xs f, is, ih) refl

    step : (a b : Bool) → bits (length xs) ≡ b → chosen (map f xs) bits ≡ map f ys
        → chosen (map f (if a then xs ++ n ∷ [] else xs)) bits ≡ map f (if a && b then ys ++ n ∷ [] else ys)
    step true true is ih = push true is ih ∙ sym (map-append f ys (n ∷ []))
    step true false is ih = push false is ih ∙ append-nil (map f ys)
    step false b is ih = ih

-- One place more of which some are chosen.
pub chosen_more : (places : List Place) (bits : ℕ → Bool) (i : ℕ) (d : Place) → i < length places
    → chosen (take (i + 1) places) bits
    ≡ chosen (take i places) bits ++ (if bits i then slice_index_or places i d ∷ [] else [])
chosen_more places bits i d less =
    let short : length (take i places) ≡ i = length-take-le i places (omega (arith, less)) in
    ap (λ xs. chosen xs bits) (take_more places i d less)
    ∙ chosen_append (take i places) (slice_index_or places i d) bits
    ∙ ap (λ n. chosen (take i places) bits ++ (if bits n then slice_index_or places i d ∷ [] else [])) short
