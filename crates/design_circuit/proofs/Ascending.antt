-- Numbers that ascend, one pair after the other.
use Rattle.std.proofs.Common.{◌≡◌, ℕ, false, true, ◌+◌, ◌-◌, ◌<◌, ◌≤◌, List, length, map, sym, ap, ◌∙◌, arith, get_or, ⊎_elim}
use Rattle.std.specs.Prelude.{slice_index}
use Rattle.std.specs.List.Sorted.{IsStrictlyIncreasing}
use Rattle.std.proofs.lemmas.List.{get_or-map, length-map}
use Rattle.std.proofs.lemmas.Bool.{cases_eq}
use Rattle.design_circuit.specs.declared.place.Place.{Place}

pub at_number : (f : Place → ℕ) (xs : List Place) (k : ℕ) (d : Place) (n : ℕ) → k < length xs → n ≡ f (get_or xs k d)
    → slice_index (map f xs) k ≡ n
at_number f xs k d n less is = get_or-map f xs k d 0 less ∙ sym is

abbrev Rises : List ℕ → ℕ → Type 0
Rises ns k = slice_index ns k < slice_index ns (k + 1)

-- A pair that doesn't ascend,
pub falls : (f : Place → ℕ) (xs : List Place) (index : ℕ) (d e : Place) (low high : ℕ) → 0 < index → index < length xs
    → high ≡ f (get_or xs index d) → low ≡ f (get_or xs (index - 1) e) → high ≤ low → IsStrictlyIncreasing (map f xs) → ⊥
falls f xs index d e low high some less high_is low_is fall ascending =
    let k = index - 1 in
    let next : k + 1 ≡ index = omega arith in
    let long = length-map xs f in
    let rises = ascending k (omega (arith, next, less, long)) in
    let first = at_number f xs k e low (omega arith) low_is in
    let second = ap (λ i. slice_index (map f xs) i) next ∙ at_number f xs index d high less high_is in
    absurd (omega (arith, rises, first, second, fall))

-- and one more that does.
pub rises_more : (f : Place → ℕ) (xs : List Place) (index : ℕ) (d e : Place) (low high : ℕ) → 0 < index → index < length xs
    → high ≡ f (get_or xs index d) → low ≡ f (get_or xs (index - 1) e) → low < high
    → ((k : ℕ) → k + 1 < index → Rises (map f xs) k)
    → (k : ℕ) → k + 1 < index + 1 → Rises (map f xs) k
rises_more f xs index d e low high some less high_is low_is rise before k within =
    ⊎_elim (λ (same : k + 1 ≡ index).
    let last : k ≡ index - 1 = omega (arith, same) in
    let first = ap (λ i. slice_index (map f xs) i) last ∙ at_number f xs (index - 1) e low (omega arith) low_is in
    let second = ap (λ i. slice_index (map f xs) i) same ∙ at_number f xs index d high less high_is in
    omega (arith, rise, first, second))
    (λ differ. before k (omega (arith, within, differ)))
    (cases_eq (k + 1) index)

pub no_truth : false ≡ true → ⊥
no_truth is = absurd cc
