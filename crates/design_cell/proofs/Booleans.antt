-- Tests on each number below a bound.
use Rattle.std.proofs.Common.{◌≡◌, ℕ, zero, suc, ◌<◌, ◌&&◌, ◌||◌, Bool, true, false, cond, refl, sym, ap, ◌∙◌, arith, ◌⊎◌, inl, inr, subst}
use Rattle.std.proofs.lemmas.Bool.{cases_lt}
use Rattle.design_cell.specs.declared.value.Value.{Value}
use Rattle.design_cell.specs.declared.row.RawRow.{RawRow}
use Rattle.design_cell.specs.Symbol.{fits}
use Rattle.design_cell.specs.Row.{symbol_at, fits_below}
use Rattle.design_cell.specs.Meeting.{meet, meet_below}
use Rattle.design_cell.specs.Below.{any_below, first_below}

pub and_both : (a b : Bool) → a ≡ true → b ≡ true → (a && b) ≡ true
and_both a b h k = rw (h, k) refl

pub and_left : (a b : Bool) → (a && b) ≡ true → a ≡ true
and_left true b h = refl
and_left false b h = h

pub and_right : (a b : Bool) → (a && b) ≡ true → b ≡ true
and_right true b h = h
and_right false b h = cc

pub or_cases : (a b : Bool) → (a || b) ≡ true → (a ≡ true) ⊎ (b ≡ true)
or_cases true b h = inl refl
or_cases false b h = inr h

pub or_left : (a b : Bool) → a ≡ true → (a || b) ≡ true
or_left true b h = refl
or_left false b h = cc

pub or_right : (a b : Bool) → b ≡ true → (a || b) ≡ true
or_right true b h = refl
or_right false b h = h

pub last : (k n : ℕ) → k < suc n → (k < n) ⊎ (k ≡ n)
last k n h = elim (cases_lt k n) as (λ _. (k < n) ⊎ (k ≡ n)) [ inl lt ↦ inl lt | inr ge ↦ inr (omega arith) ]

pub any_here : (n : ℕ) (p : ℕ → Bool) (k : ℕ) → k < n → p k ≡ true → any_below n p ≡ true
any_here zero p k below h = absurd (omega arith)
any_here (suc n) p k below h = elim (last k n below) as (λ _. any_below (suc n) p ≡ true) [
  | inl lt ↦ or_left (any_below n p) (p n) (any_here n p k lt h)
  | inr e ↦ or_right (any_below n p) (p n) (ap p (sym e) ∙ h)
]

pub any_found : (n : ℕ) (p : ℕ → Bool) → any_below n p ≡ true → (k : ℕ) × (k < n) × (p k ≡ true)
any_found zero p h = cc
any_found (suc n) p h = elim (or_cases (any_below n p) (p n) h) as (λ _. (k : ℕ) × (k < suc n) × (p k ≡ true)) [
  | inl e ↦ (let f = any_found n p e in (f.0, omega (arith, f.1), f.2))
  | inr e ↦ (n, omega arith, e)
]

pub fits_from : (n : ℕ) (r : RawRow) (old new : ℕ → Value) → ((c : ℕ) → c < n → fits (symbol_at r c) (old c) (new c) ≡ true) → fits_below n r old new ≡ true
fits_from zero r old new h = refl
fits_from (suc n) r old new h = and_both _ _ (fits_from n r old new (λ c below. h c (omega arith))) (h n (omega arith))

pub fits_to : (n : ℕ) (r : RawRow) (old new : ℕ → Value) → fits_below n r old new ≡ true → (c : ℕ) → c < n → fits (symbol_at r c) (old c) (new c) ≡ true
fits_to zero r old new h c below = absurd (omega arith)
fits_to (suc n) r old new h c below = elim (last c n below) as (λ _. fits (symbol_at r c) (old c) (new c) ≡ true) [
  | inl lt ↦ fits_to n r old new (and_left _ (fits (symbol_at r n) (old n) (new n)) h) c lt
  | inr e ↦ subst (λ k. fits (symbol_at r k) (old k) (new k) ≡ true) (sym e) (and_right (fits_below n r old new) _ h)
]

pub meets_from : (n : ℕ) (r s : RawRow) → ((c : ℕ) → c < n → meet (symbol_at r c) (symbol_at s c) ≡ true) → meet_below n r s ≡ true
meets_from zero r s h = refl
meets_from (suc n) r s h = and_both _ _ (meets_from n r s (λ c below. h c (omega arith))) (h n (omega arith))

pub meets_to : (n : ℕ) (r s : RawRow) → meet_below n r s ≡ true → (c : ℕ) → c < n → meet (symbol_at r c) (symbol_at s c) ≡ true
meets_to zero r s h c below = absurd (omega arith)
meets_to (suc n) r s h c below = elim (last c n below) as (λ _. meet (symbol_at r c) (symbol_at s c) ≡ true) [
  | inl lt ↦ meets_to n r s (and_left _ (meet (symbol_at r n) (symbol_at s n)) h) c lt
  | inr e ↦ subst (λ k. meet (symbol_at r k) (symbol_at s k) ≡ true) (sym e) (and_right (meet_below n r s) _ h)
]

pub first_found : (n : ℕ) (p : ℕ → Bool) → any_below n p ≡ true → (first_below n p < n) × (p (first_below n p) ≡ true)
first_found zero p h = cc
first_found (suc n) p h =
    let Goal : Bool → Type 0 = λ b. (cond b (first_below n p) n < suc n) × (p (cond b (first_below n p) n) ≡ true) in
    let cases : (b : Bool) → any_below n p ≡ b → Goal b = λ b e. elim b as (λ b. any_below n p ≡ b → Goal b) [
      | true ↦ λ e. (let f = first_found n p e in (omega (arith, f.0), f.1))
      | false ↦ λ e. (omega arith, elim (or_cases (any_below n p) (p n) h) as (λ _. p n ≡ true) [ inl k ↦ absurd (let g : true ≡ false = sym k ∙ e in cc) | inr k ↦ k ])
    ] e in
    cases (any_below n p) refl
