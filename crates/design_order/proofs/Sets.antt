-- Sets of numbers as tests.
use Rattle.std.proofs.Common.{◌≡◌, ◌≢◌, ℕ, ◌<◌, Bool, true, false, cond, refl, sym, ap, ◌∙◌, ◌⊎◌, inl, inr}
use Rattle.std.specs.declared.cmp.Ordering.{Ordering}
use Rattle.std.specs.declared.cmp.Ordering.TheVariants.{Less, Equal, Greater}
use Rattle.std.specs.Ordering.{nat_cmp, is_eq, is_gt}
use Rattle.std.specs.Cmp.{nat_cmp_is}
use Rattle.std.specs.BTreeMap.{is_at}
use Rattle.std.specs.BTreeSet.{BTreeSet, contains, Updates, IsLowerBound}
use Rattle.std.proofs.lemmas.Map.Lookups.{exact_unsigned}
use Rattle.std.proofs.lemmas.Bool.{cases_eq}
use Rattle.design_order.specs.Popped.{Popped}
use Rattle.design_order.specs.Progress.{Offers}
use Rattle.design_order.proofs.Finds.{cases_bool}

at_same : (k : ℕ) → is_at (nat_cmp k) k ≡ true
at_same k = let e : Equal ≡ nat_cmp k k = nat_cmp_is k k Equal refl in ap is_eq (sym e)

is_equal : (o : Ordering) → is_eq o ≡ true → o ≡ Equal
is_equal Less h = absurd (let no : false ≡ true = h in cc)
is_equal Equal h = refl
is_equal Greater h = absurd (let no : false ≡ true = h in cc)

at_other : (k q : ℕ) → q ≢ k → is_at (nat_cmp k) q ≡ false
at_other k q ne = elim (cases_bool (is_at (nat_cmp k) q)) as (λ _. is_at (nat_cmp k) q ≡ false) [
  | inl e ↦ absurd (ne (sym (exact_unsigned k q (is_equal (nat_cmp k q) e))))
  | inr e ↦ e
]

not_below : (s : BTreeSet ℕ) (k q : ℕ) → IsLowerBound nat_cmp s k → q < k → contains nat_cmp s q ≡ false
not_below s k q least lt = elim (cases_bool (contains nat_cmp s q)) as (λ _. contains nat_cmp s q ≡ false) [
  | inl e ↦ absurd (
      let more : Greater ≡ nat_cmp k q = nat_cmp_is k q Greater lt in
      let no : true ≡ false = ap is_gt more ∙ least q e in
      cc)
  | inr e ↦ e
]

pub popped : (s n : BTreeSet ℕ) (k : ℕ) → contains nat_cmp s k ≡ true → IsLowerBound nat_cmp s k → Updates nat_cmp s n k false → Popped (contains nat_cmp s) (contains nat_cmp n) k
popped s n k member least updates = record {
  here = member;
  gone = updates.0 k ∙ ap (λ b. cond b false (contains nat_cmp s k)) (at_same k);
  others = λ other ne. updates.2 other (at_other k other ne);
  least = λ other lt. not_below s k other least lt;
}

pub offers : (s n : BTreeSet ℕ) (can : ℕ → Bool) (k : ℕ) → can k ≡ true → Updates nat_cmp s n k true → Offers can (contains nat_cmp s) (contains nat_cmp n) k
offers s n can k can_k updates = record {
  joined = λ _. updates.0 k ∙ ap (λ b. cond b true (contains nat_cmp s k)) (at_same k);
  kept = λ other h. elim (cases_bool (is_at (nat_cmp k) other)) as (λ _. contains nat_cmp n other ≡ true) [
    | inl e ↦ updates.0 other ∙ ap (λ b. cond b true (contains nat_cmp s other)) e
    | inr e ↦ updates.2 other e ∙ h
  ];
  only = λ other h. elim (cases_eq other k) as (λ _. (contains nat_cmp s other ≡ true) ⊎ ((other ≡ k) × (can k ≡ true))) [
    | inl e ↦ inr (e, can_k)
    | inr ne ↦ inl (sym (updates.2 other (at_other k other ne)) ∙ h)
  ];
}

pub offers_none : (ready can : ℕ → Bool) (k : ℕ) → can k ≡ false → Offers can ready ready k
offers_none ready can k can_not = record {
  joined = λ yes. absurd (let e : true ≡ false = sym yes ∙ can_not in cc);
  kept = λ other h. h;
  only = λ other h. inl h;
}
