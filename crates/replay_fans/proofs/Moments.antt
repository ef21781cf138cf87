-- Moments of a step and of the one before.
use Rattle.std.proofs.Common.{◌≡◌, ℕ, zero, suc, ◌+◌, ◌-◌, ◌*◌, ◌/◌, ◌%◌, ◌<◌, sym, ap, ◌∙◌, arith}
use Rattle.std.proofs.Math.Nat.{mod-lt}
use Rattle.std.proofs.lemmas.Nat.{div-mul-add}

-- A step that isn't the first of its moment belongs to the moment of the step before.
pub same_moment : (step rounds : ℕ) → 0 < rounds → 0 < step % rounds → step / rounds ≡ (step - 1) / rounds
same_moment step rounds some rest =
    let less : step % rounds < rounds = mod-lt step some in
    let whole : (step / rounds) * rounds + step % rounds ≡ step = omega arith in
    let back : (step / rounds) * rounds + (step % rounds - 1) ≡ step - 1 = omega (arith, whole, rest) in
    sym (div-mul-add (step / rounds) rounds (step % rounds - 1) (omega (arith, less, rest)))
    ∙ ap (λ (n : ℕ). n / rounds) back

-- A later step that is the first of its moment isn't of the first one.
pub later_moment : (step rounds : ℕ) → 0 < step → step % rounds ≡ 0 → 0 < step / rounds
later_moment step rounds later none = let whole : (step / rounds) * rounds ≡ step = omega (arith, none) in
    positive (step / rounds) whole
  where
    positive : (m : ℕ) → m * rounds ≡ step → 0 < m
    positive zero is = absurd (omega (arith, is, later))
    positive (suc m) is = omega arith

-- The step before the first of a later moment belongs to the moment before.
pub moment_before : (step rounds : ℕ) → 0 < rounds → 0 < step → step % rounds ≡ 0
    → step / rounds - 1 ≡ (step - 1) / rounds
moment_before step rounds some later none =
    let whole : (step / rounds) * rounds ≡ step = omega (arith, none) in
    let moments : 0 < step / rounds = later_moment step rounds later none in
    let back : (step / rounds - 1) * rounds + (rounds - 1) ≡ step - 1 =
    last (step / rounds) rounds some moments whole in
    sym (div-mul-add (step / rounds - 1) rounds (rounds - 1) (omega (arith, some))) ∙ ap (λ (n : ℕ). n / rounds) back
  where
    last : (m rounds : ℕ) → 0 < rounds → 0 < m → m * rounds ≡ step → (m - 1) * rounds + (rounds - 1) ≡ step - 1
    last zero rounds some more is = absurd (omega (arith, more))
    last (suc m) rounds some more is = let e : suc m - 1 ≡ m = omega arith in
        let whole : suc m * rounds ≡ m * rounds + rounds = omega arith in rw e (omega (arith, is, whole, some))
