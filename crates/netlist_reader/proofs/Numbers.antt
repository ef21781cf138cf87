-- Numbers by their digits.
use Rattle.std.proofs.Common.{◌≡◌, ◌≢◌, ℕ, suc, ◌+◌, ◌*◌, ◌/◌, ◌^◌, ◌≤◌, ◌<◌, ◌⊎◌, inl, inr, Bool, true, false, not}
use Rattle.std.proofs.Common.{List, [], ◌∷◌, length, drop, filter, get_or, refl, sym, ap, subst, ◌∙◌, ◌==◌, ◌&&◌, ◌||◌}
use Rattle.std.proofs.Common.{nat_eq, nat_le, nat_lt, arith, if◌then◌else◌, Option, Some, None, option_and_then}
use Rattle.std.proofs.Math.Nat.{le-mul_of_pos_right, div-eq_of_lt, lt-div-mul-add}
use Rattle.std.proofs.Math.Pow.{pow_mono}
use Rattle.std.proofs.lemmas.Bool.Decides.{nat_tests, eqb_tells, leb_tells}
use Rattle.std.specs.List.{list_all}
use Rattle.std.proofs.lemmas.Bool.{eqb-true}
use Rattle.netlist_grammar.specs.Bytes.{number_from, worth, are_digits, is_digit_of}
use Rattle.netlist_grammar.specs.Numbers.{int_of, base_of, literal_in, literal_behind, begins, ends, are_spaced_digits, spaced_number}

and_false : (b : Bool) → (b && false) ≡ false
and_false true = refl
and_false false = refl

ltb_tells : (n m : ℕ) → ((nat_lt n m ≡ true) × (n < m)) ⊎ ((nat_lt n m ≡ false) × (m ≤ n))
ltb_tells n m = elim (leb_tells (suc n) m) [ inl t ↦ inl (t.0, omega (arith, t.1)) | inr f ↦ inr (f.0, omega (arith, f.1)) ]

above : (n m : ℕ) → m ≤ n → nat_lt n m ≡ false
above n m h = grind (arith, nat_tests)

-- ---- digits with `_` between, byte by byte

-- after a byte that is a digit or not
abbrev pub go_on : ℕ → Bool → List ℕ → Bool
go_on base is_end [] = is_end
go_on base is_end (b ∷ bs) = (is_digit_of base b || (b == 95)) && go_on base (is_digit_of base b) bs

-- whether the last byte is a digit, after one that is or not
ends_behind : ℕ → Bool → List ℕ → Bool
ends_behind base is_end [] = is_end
ends_behind base is_end (b ∷ bs) = ends_behind base (is_digit_of base b) bs

ends_is : (base b : ℕ) (bs : List ℕ) → ends (is_digit_of base) (b ∷ bs) ≡ ends_behind base (is_digit_of base b) bs
unfolding ends_behind
ends_is base b [] = refl
ends_is base b (c ∷ cs) = ends_is base c cs

swapped : (q e l : Bool) → (q && (e && l)) ≡ (e && (q && l))
swapped true e l = refl
swapped false e l = sym (and_false e)

and_true : (b : Bool) → (b && true) ≡ b
and_true true = refl
and_true false = refl

go_on_is : (base : ℕ) (is_end : Bool) (bs : List ℕ) → go_on base is_end bs ≡ (ends_behind base is_end bs && list_all (λ b. is_digit_of base b || (b == 95)) bs)
unfolding ends_behind
go_on_is base is_end [] = sym (and_true is_end)
go_on_is base is_end (b ∷ bs) =
    let q = is_digit_of base b || (b == 95) in
    let e = ends_behind base (is_digit_of base b) bs in
    let l = list_all (λ b. is_digit_of base b || (b == 95)) bs in
    ap (λ x. q && x) (go_on_is base (is_digit_of base b) bs) ∙ swapped q e l

begun : (d u e l : Bool) → ((d && e) && ((d || u) && l)) ≡ (d && (e && l))
begun true u e l = refl
begun false u e l = refl

or_false : (d u : Bool) → u ≡ false → (d || u) ≡ d
or_false true u h = refl
or_false false u h = h

-- what doesn't begin with `_`
pub spaced_starts : (base : ℕ) (text : List ℕ) → begins (λ b. b == 95) text ≡ false → are_spaced_digits base text ≡ go_on base false text
unfolding are_spaced_digits
spaced_starts base [] h = refl
spaced_starts base (b ∷ bs) h =
    let d = is_digit_of base b in
    let u = (b == 95) in
    let l = list_all (λ b. is_digit_of base b || (b == 95)) bs in
    let rest : go_on base d bs ≡ (ends (is_digit_of base) (b ∷ bs) && l) = go_on_is base d bs ∙ ap (λ x. x && l) (sym (ends_is base b bs)) in
    begun d u (ends (is_digit_of base) (b ∷ bs)) l ∙ ap (λ x. d && x) (sym rest) ∙ ap (λ x. x && go_on base d bs) (sym (or_false d u h))

-- No digit is a `_`.
pub space_first : (base : ℕ) (text : List ℕ) → begins (λ b. b == 95) text ≡ true → base ≤ 16 → are_spaced_digits base text ≡ false
unfolding are_spaced_digits
space_first base [] h l = absurd cc
space_first base (b ∷ bs) h l =
    let same : 95 ≡ b = sym (eqb-true b 95 h) in
    let none : is_digit_of base 95 ≡ false = above 16 base l in
    let no : is_digit_of base b ≡ false = subst (λ (x : ℕ). is_digit_of base x ≡ false) same none in
    rw no refl

-- a number grows with its digits
pub grows : (base n : ℕ) (ds : List ℕ) → 1 ≤ base → n ≤ number_from base n ds
grows base n [] h = omega arith
grows base n (d ∷ ds) h =
    let once : n ≤ n * base = le-mul_of_pos_right n (omega arith) in
    let more : n * base + worth d ≤ number_from base (n * base + worth d) ds = grows base (n * base + worth d) ds h in
    omega arith

-- a value that one more digit makes too big
pub int_too_big : (text : List ℕ) (n : ℕ) (rest : List ℕ) → number_from 10 0 text ≡ number_from 10 n rest → 1 ≤ length rest → 214748364 < n → int_of text ≡ None
unfolding int_of
int_too_big text n [] h l k = absurd (omega arith)
int_too_big text n (d ∷ ds) h l k =
    let more : n * 10 + worth d ≤ number_from 10 (n * 10 + worth d) ds = grows 10 (n * 10 + worth d) ds (omega arith) in
    let big : 2147483648 ≤ number_from 10 0 text = rw h (omega arith) in
    rw (above (number_from 10 0 text) 2147483648 big, and_false (are_digits text)) refl

pub too_wide : (base : ℕ) (text : List ℕ) (value : ℕ) (rest : List ℕ)
    → spaced_number base text ≡ number_from base value (filter (λ b. not (b == 95)) rest) → 1 ≤ length rest → 2 ≤ base
    → get_or rest 0 0 ≢ 95 → ¬ (value * base + worth (get_or rest 0 0) < 2 ^ 128)
    → (if are_spaced_digits base text && nat_lt (spaced_number base text) (2 ^ 128) then Some (spaced_number base text) else None) ≡ None
too_wide base text value [] h l k p q = absurd (omega arith)
too_wide base text value (d ∷ ds) h l k p q =
    let differs : (d == 95) ≡ false = grind (arith, nat_tests) in
    let once : spaced_number base text ≡ number_from base (value * base + worth d) (filter (λ b. not (b == 95)) ds) = rw differs at h in
    let more : value * base + worth d ≤ number_from base (value * base + worth d) (filter (λ b. not (b == 95)) ds) = grows base (value * base + worth d) (filter (λ b. not (b == 95)) ds) (omega arith) in
    let big : 2 ^ 128 ≤ spaced_number base text = rw once (omega arith) in
    rw (above (spaced_number base text) (2 ^ 128) big, and_false (are_spaced_digits base text)) refl

abbrev pub pair_or : Bool → Bool → ℕ → ℕ → Option (ℕ × ℕ)
pair_or b c s n = if b && c then Some (s, n) else None

-- a number that doesn't fit many bits doesn't fit fewer
pub narrower : (b : Bool) (n s : ℕ) → s ≤ 128 → (if b && nat_lt n (2 ^ 128) then Some n else None) ≡ None → pair_or b (nat_lt n (2 ^ s)) s n ≡ None
narrower false n s h k = refl
narrower true n s h k =
    elim (ltb_tells n (2 ^ 128)) [
      | inl t ↦ absurd (let g : Some n ≡ None = rw t.0 at k in cc)
      | inr f ↦ let wide : 2 ^ s ≤ 2 ^ 128 = pow_mono h in rw (above n (2 ^ s) (omega arith)) refl
    ]

pub quotient_zero : (n m : ℕ) → 0 < m → nat_eq (n / m) 0 ≡ nat_lt n m
quotient_zero n m h =
    elim (ltb_tells n m) [
      | inl t ↦ rw (t.0, div-eq_of_lt {n = n} {m = m} t.1) refl
      | inr f ↦ elim (eqb_tells (n / m) 0) [
        | inl z ↦ absurd (let below : n < n / m * m + m = lt-div-mul-add {a = n} {b = m} h in let e : n / m * m + m ≡ m = rw z.1 (omega arith) in omega arith)
        | inr z ↦ rw (z.0, f.0) refl
      ]
    ]

-- a choice, then a step
pub chosen_then : {Y : Type 0} (c : Bool) (n : ℕ) (r : Option ℕ) (k : ℕ → Option Y) → r ≡ (if c then Some n else None)
    → (if c then k n else None) ≡ option_and_then k r
chosen_then true n r k h = rw h refl
chosen_then false n r k h = rw h refl

pub behind_is : (size rest : List ℕ) (n base : ℕ) (r : Option (ℕ × ℕ)) → 2 ≤ length rest
    → Some n ≡ (if are_digits size && (get_or rest 0 0 == 39) && nat_le 1 (number_from 10 0 size) && nat_le (number_from 10 0 size) 128 then Some (number_from 10 0 size) else None)
    → Some base ≡ base_of (get_or rest 1 0) → r ≡ literal_in n (drop 2 rest) (Some base) → r ≡ literal_behind size rest
behind_is size [] n base r l h k e = absurd (omega arith)
behind_is size (q ∷ []) n base r l h k e = absurd (omega arith)
behind_is size (q ∷ b ∷ digits) n base r l h k e =
    let chosen = chosen_then (are_digits size && (q == 39) && nat_le 1 (number_from 10 0 size) && nat_le (number_from 10 0 size) 128) (number_from 10 0 size) (Some n) (λ (m : ℕ). literal_in m digits (base_of b)) h in
    rw (chosen, ← k) e
