-- Each assignment is the bits of a number.
use Rattle.std.proofs.Common.{◌≡◌, ℕ, ◌+◌, ◌*◌, ◌^◌, ◌/◌, ◌%◌, ◌<◌, ◌==◌, Bool, true, false, cond, List, [], ◌∷◌, length, if◌then◌else◌, refl, ap, ◌∙◌, arith, ⊎_elim}
use Rattle.std.proofs.Math.Nat.{pow-suc}
use Rattle.std.specs.List.{AllByRecursion}
use Rattle.std.proofs.lemmas.Bool.{cases_eq}
use Rattle.law_model.specs.Mask.{masked, mask_of}
use Rattle.design_circuit.proofs.Rules.{AgreeOn}

low : (b : Bool) (m : ℕ) → ((cond b 1 0 + 2 * m) % 2 == 1) ≡ b
low true m = let e : (1 + 2 * m) % 2 ≡ 1 = omega arith in rw e refl
low false m = let e : (0 + 2 * m) % 2 ≡ 0 = omega arith in rw e refl

high : (b : Bool) (m : ℕ) → (cond b 1 0 + 2 * m) / 2 ≡ m
high true m = omega arith
high false m = omega arith

bit_small : (b : Bool) (m n : ℕ) → m < n → cond b 1 0 + 2 * m < 2 * n
bit_small true m n less = omega arith
bit_small false m n less = omega arith

pub mask_small : (places : List ℕ) (bits : ℕ → Bool) → mask_of places bits < 2 ^ length places
mask_small [] bits = omega arith
mask_small (first ∷ places) bits =
    let ih = mask_small places bits in
    let step = bit_small (bits first) (mask_of places bits) (2 ^ length places) ih in
    let double = pow-suc 2 (length places) in
    omega (arith, step, double)

pub along : (P Q : ℕ → Type 0) (xs : List ℕ) → ((k : ℕ) → P k → Q k) → AllByRecursion P xs → AllByRecursion Q xs
along P Q [] more all = tt
along P Q (x ∷ xs) more all = (more x all.0, along P Q xs more all.1)

first_or : (place first : ℕ) (bits : ℕ → Bool) (here other : Bool) → here ≡ bits first → other ≡ bits place
    → (if place == first then here else other) ≡ bits place
first_or place first bits here other here_is other_is =
    ⊎_elim (λ (same : place ≡ first). (rw same (itself first here_is)))
    (λ (differ : place ≡ first → ⊥). (let skip : (if place == first then here else other) ≡ other = grind
    arith in skip ∙ other_is)) (cases_eq place first)
  where
    itself : (k : ℕ) → here ≡ bits k → (if k == k then here else other) ≡ bits k
    itself k is = grind arith

-- The bits of that number are those of the places.
pub masked_agrees : (places : List ℕ) (bits : ℕ → Bool) → AgreeOn (masked places (mask_of places bits)) bits places
masked_agrees [] bits = tt
masked_agrees (first ∷ places) bits =
    let bit = low (bits first) (mask_of places bits) in
    let rest = high (bits first) (mask_of places bits) in
    let more : (k : ℕ) → masked places (mask_of places bits) k ≡ bits k
    → masked (first ∷ places) (mask_of (first ∷ places) bits) k ≡ bits k =
    λ k same. first_or k first bits _ _ bit (ap (λ m. masked places m k) rest ∙ same) in
    (itself first bit, along _ _ places more (masked_agrees places bits))
  where
    itself : (k : ℕ) → ((mask_of (first ∷ places) bits % 2) == 1) ≡ bits k
        → masked (k ∷ places) (mask_of (first ∷ places) bits) k ≡ bits k
    itself k is = grind arith
