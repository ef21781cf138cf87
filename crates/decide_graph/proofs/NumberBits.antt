-- The bits of numbers, and the choices of bits for places that they stand for.
use Rattle.std.proofs.Common.{◌≡◌, ℕ, zero, suc, ◌+◌, ◌*◌, ◌^◌, ◌/◌, ◌%◌, ◌<◌, ◌==◌, ◌||◌, Bool, true, false, cond, List, [], ◌∷◌, ◌≤◌, length, slice_index, drop, take, refl, sym, ap, ◌∙◌, arith, if◌then◌else◌, ⊎_elim, inl, inr, length-drop, length-take}
use Rattle.std.proofs.Math.Nat.{mul_comm, pow-suc, div-div-eq-div-mul}
use Rattle.std.proofs.Math.Pow.{pow_mono}
use Rattle.std.specs.List.{AllByRecursion}
use Rattle.std.proofs.lemmas.Bool.{cases_eq, eq-eqb, eqb-true}
use Rattle.std.proofs.lemmas.Bool.Decides.{eqb_tells}
use Rattle.design_circuit.proofs.Rules.{AgreeOn}
use Rattle.law_model.specs.Assignment.{with_bit}
use Rattle.law_model.specs.Mask.{masked, mask_of}
use Rattle.law_model.specs.Places.{among}
use Rattle.law_model.proofs.AssignmentNumbers.{mask_small}

-- A place by its index is one of them.
pub index_among : (ps : List ℕ) (i : ℕ) → i < length ps → among ps (slice_index ps i) ≡ true
index_among [] i less = absurd (omega arith)
index_among (p ∷ ps) zero less = rw (eq-eqb p p refl) refl
index_among (p ∷ ps) (suc i) less = or_second (p == slice_index ps i) _ (index_among ps i (omega arith))
  where
    or_second : (a b : Bool) → b ≡ true → a || b ≡ true
    or_second true b h = refl
    or_second false b h = h

-- Places without doubles.
abbrev pub AreApart : List ℕ → Type 0
AreApart [] = Unit {0}
AreApart (p ∷ ps) = (among ps p ≡ false) × AreApart ps

or_none : (a b : Bool) → a || b ≡ false → (a ≡ false) × (b ≡ false)
or_none false b h = (refl, h)
or_none true b h = cc

-- What holds of each place but one holds of all, where that one isn't there.
pub others_all : (P : ℕ → Type 0) (places : List ℕ) (x : ℕ) → among places x ≡ false
    → ((p : ℕ) → (p == x) ≡ false → P p) → AllByRecursion P places
others_all P [] x none each = tt
others_all P (p ∷ ps) x none each =
    let parts = or_none (p == x) (among ps x) none in
    (each p parts.0, others_all P ps x parts.1 each)

pub each_all : (P : ℕ → Type 0) (places : List ℕ) → ((p : ℕ) → P p) → AllByRecursion P places
each_all P [] each = tt
each_all P (p ∷ ps) each = (each p, each_all P ps each)

-- The number of some bits reads those of the places alone.
pub mask_same : (places : List ℕ) (f g : ℕ → Bool) → AgreeOn f g places → mask_of places f ≡ mask_of places g
mask_same [] f g same = refl
mask_same (p ∷ ps) f g same = rw (same.0, mask_same ps f g same.1) refl

pub with_other : (x p : ℕ) (v : Bool) (f : ℕ → Bool) → (p == x) ≡ false → with_bit x v f p ≡ f p
with_other x p v f other = rw other refl

pub with_itself : (x : ℕ) (v : Bool) (f : ℕ → Bool) → with_bit x v f x ≡ v
with_itself x v f = rw (eq-eqb x x refl) refl

masked_first : (x : ℕ) (ps : List ℕ) (n : ℕ) → masked (x ∷ ps) n x ≡ (n % 2 == 1)
masked_first x ps n = rw (eq-eqb x x refl) refl

masked_other : (x : ℕ) (ps : List ℕ) (n p : ℕ) → (p == x) ≡ false → masked (x ∷ ps) n p ≡ masked ps (n / 2) p
masked_other x ps n p other = rw other refl

low_bit : (n : ℕ) → cond (n % 2 == 1) 1 0 ≡ n % 2
low_bit n = grind arith

-- A number is that of its own bits.
pub mask_masked : (places : List ℕ) (n : ℕ) → AreApart places → n < 2 ^ length places
    → mask_of places (masked places n) ≡ n
mask_masked [] n apart less = omega arith
mask_masked (x ∷ ps) n apart less =
    let double = pow-suc 2 (length ps) in
    let rest : mask_of ps (masked (x ∷ ps) n) ≡ n / 2 =
    mask_same ps (masked (x ∷ ps) n) (masked ps (n / 2))
    (others_all _ ps x apart.0 (λ p other. masked_other x ps n p other))
    ∙ mask_masked ps (n / 2) apart.1 (omega (arith, less, double)) in
    let first : cond (masked (x ∷ ps) n x) 1 0 ≡ n % 2 = ap (λ b. cond b 1 0) (masked_first x ps n) ∙ low_bit n in
    omega (arith, rest, first)

index_other : (ps : List ℕ) (x i : ℕ) → among ps x ≡ false → i < length ps → (slice_index ps i == x) ≡ false
index_other [] x i none less = absurd (omega arith)
index_other (p ∷ ps) x zero none less = (or_none (p == x) (among ps x) none).0
index_other (p ∷ ps) x (suc i) none less = index_other ps x i (or_none (p == x) (among ps x) none).1 (omega arith)

turned : (a b : ℕ) → (a == b) ≡ false → (b == a) ≡ false
turned a b h = grind arith

half : (n q : ℕ) → n / (q * 2) ≡ (n / 2) / q
half n q = ap (λ (m : ℕ). n / m) (mul_comm q 2) ∙ sym (div-div-eq-div-mul n 2 q)

halved : (b : Bool) (m : ℕ) → (cond b 1 0 + 2 * m) / 2 ≡ m
halved true m = omega arith
halved false m = omega arith

-- A bit of a number is that of the place.
pub bit_masked : (places : List ℕ) (n i : ℕ) → AreApart places → i < length places
    → masked places n (slice_index places i) ≡ ((n / 2 ^ i) % 2 == 1)
bit_masked [] n i apart less = absurd (omega arith)
bit_masked (x ∷ ps) n zero apart less =
    masked_first x ps n ∙ ap (λ (m : ℕ). m % 2 == 1) (let whole : n ≡ n / 2 ^ 0 = omega arith in whole)
bit_masked (x ∷ ps) n (suc i) apart less =
    let inside : i < length ps = omega arith in
    masked_other x ps n (slice_index ps i) (index_other ps x i apart.0 inside)
    ∙ bit_masked ps (n / 2) i apart.1 inside
    ∙ ap (λ (m : ℕ). m % 2 == 1) (sym (ap (λ (q : ℕ). n / q) (pow-suc 2 i) ∙ half n (2 ^ i)))

-- And the bit of the number of some bits.
pub mask_bit : (places : List ℕ) (bits : ℕ → Bool) (i : ℕ) → i < length places
    → (mask_of places bits / 2 ^ i) % 2 ≡ cond (bits (slice_index places i)) 1 0
mask_bit [] bits i less = absurd (omega arith)
mask_bit (x ∷ ps) bits zero less = lowest (bits x) (mask_of ps bits)
  where
    lowest : (b : Bool) (m : ℕ) → ((cond b 1 0 + 2 * m) / 2 ^ 0) % 2 ≡ cond b 1 0
    lowest true m = omega arith
    lowest false m = omega arith
mask_bit (x ∷ ps) bits (suc i) less =
    let n = mask_of (x ∷ ps) bits in
    ap (λ (m : ℕ). m % 2) (ap (λ (q : ℕ). n / q) (pow-suc 2 i) ∙ half n (2 ^ i)
    ∙ ap (λ (m : ℕ). m / 2 ^ i) (halved (bits x) (mask_of ps bits)))
    ∙ mask_bit ps bits i (omega arith)

-- One more bit.
pub mask_with : (places : List ℕ) (bits : ℕ → Bool) (i : ℕ) → AreApart places → i < length places
    → mask_of places (with_bit (slice_index places i) true bits)
    ≡ mask_of places (with_bit (slice_index places i) false bits) + 2 ^ i
mask_with [] bits i apart less = absurd (omega arith)
mask_with (x ∷ ps) bits zero apart less =
    let one : mask_of ps (with_bit x true bits) ≡ mask_of ps bits = mask_same ps (with_bit x true bits) bits
    (others_all _ ps x apart.0 (λ p other. with_other x p true bits other)) in
    let none : mask_of ps (with_bit x false bits) ≡ mask_of ps bits = mask_same ps (with_bit x false bits) bits
    (others_all _ ps x apart.0 (λ p other. with_other x p false bits other)) in
    rw (with_itself x true bits, with_itself x false bits) (omega (arith, one, none))
mask_with (x ∷ ps) bits (suc i) apart less =
    let inside : i < length ps = omega arith in
    let k = slice_index ps i in
    let apart_from : (x == k) ≡ false = turned k x (index_other ps x i apart.0 inside) in
    let ih = mask_with ps bits i apart.1 inside in
    let double = pow-suc 2 i in
    rw (with_other k x true bits apart_from, with_other k x false bits apart_from) (omega (arith, ih, double))

-- Where a number's bit is 0, it is the number of its bits with 0 there.
pub mask_clear : (places : List ℕ) (n i : ℕ) → AreApart places → i < length places → n < 2 ^ length places
    → (n / 2 ^ i) % 2 ≡ 0 → mask_of places (with_bit (slice_index places i) false (masked places n)) ≡ n
mask_clear places n i apart less small clear =
    let zero_there : masked places n (slice_index places i) ≡ false = bit_masked places n i apart less ∙ off (n / 2 ^ i) clear in
    mask_same places (with_bit (slice_index places i) false (masked places n)) (masked places n)
    (each_all _ places (λ p. kept (slice_index places i) p (masked places n) zero_there))
    ∙ mask_masked places n apart small
  where
    off : (m : ℕ) → m % 2 ≡ 0 → (m % 2 == 1) ≡ false
    off m h = rw h refl

    kept : (k p : ℕ) (f : ℕ → Bool) → f k ≡ false → with_bit k false f p ≡ f p
    kept k p f none = elim (eqb_tells p k) as (λ _. with_bit k false f p ≡ f p) [
      | inl e ↦ rw e.0 (sym none ∙ ap f (sym e.1))
      | inr e ↦ rw e.0 refl
    ]

-- At most 13 places have numbers below 2^13.
pub mask_few : (places : List ℕ) (bits : ℕ → Bool) → length places ≤ 13 → mask_of places bits < 2 ^ 13
mask_few places bits few =
    let small = mask_small places bits in
    let up : 2 ^ length places ≤ 2 ^ 13 = pow_mono few in
    omega (arith, small, up)

-- And so have those behind the first.
pub rest_few : (places : List ℕ) (k : ℕ) (bits : ℕ → Bool) → length places ≤ 13
    → mask_of (take k (drop 1 places)) bits < 2 ^ 13
rest_few places k bits few =
    let cut = length-take k (drop 1 places) in
    let shorter = length-drop 1 places in
    mask_few (take k (drop 1 places)) bits (omega (arith, cut, shorter, few))

-- A number comes back from its half and its last bit.
pub half_back : (n : ℕ) → 2 * (n / 2) + (if n % 2 == 1 then 1 else 0) ≡ n
half_back n = by (n % 2 == 1) refl
  where
    by : (b : Bool) → (n % 2 == 1) ≡ b → 2 * (n / 2) + (if b then 1 else 0) ≡ n
    by true is = (let odd = eqb-true (n % 2) 1 is in omega (arith, odd))
    by false is =
        ⊎_elim (λ (odd : n % 2 ≡ 1). absurd (not_both (eq-eqb (n % 2) 1 odd) is))
        (λ (other : n % 2 ≡ 1 → ⊥). omega (arith, other)) (cases_eq (n % 2) 1)
      where
        not_both : {b : Bool} → b ≡ true → b ≡ false → ⊥
        not_both one other = (let e : true ≡ false = sym one ∙ other in cc)
