-- How many entries come in a moment or before it.
use Rattle.std.proofs.Common.{◌≡◌, ℕ, ◌-◌, ◌<◌, ◌≤◌, true, false, List, length, sym, ap, ◌∙◌, arith, nat_le, slice_index_or}
use Rattle.std.specs.List.Sorted.{IsNonDecreasingBy}
use Rattle.std.proofs.lemmas.Bool.Decides.{nat_tests}
use Rattle.std.proofs.lemmas.List.{get_or_default}
use Rattle.recording_changes.specs.declared.track.Entry.{Entry}
use Rattle.recording_changes.specs.Stored.{IsBefore}

le_true : (a b m : ℕ) → a ≤ b → nat_le b m ≡ true → nat_le a m ≡ true
le_true a b m le h = grind (arith, nat_tests)

lt_false : (a b m : ℕ) → a ≤ b → m < a → nat_le b m ≡ false
lt_false a b m le h = grind (arith, nat_tests)

pub before_is : (es : List Entry) (m n : ℕ) (e : Entry) → IsNonDecreasingBy (λ (e : Entry). e.moment) es → n ≤ length es → ¬ (n ≡ 0) → e ≡ slice_index_or es (n - 1) e → nat_le e.moment m ≡ true → IsBefore m es n
before_is es m n e sorted le some is h = record {
  within = le;
  each = λ k d lt.
      let same : slice_index_or es (n - 1) d ≡ e = get_or_default es (n - 1) d e (omega (arith, le, some)) ∙ sym is in
      le_true _ _ m (sorted k (n - 1) d (omega (arith, lt, some)) (omega (arith, le, some))) (ap (λ (x : Entry). nat_le x.moment m) same ∙ h);
}

pub after_is : (es : List Entry) (m n : ℕ) (e : Entry) → IsNonDecreasingBy (λ (e : Entry). e.moment) es → m < (slice_index_or es n e).moment → (k : ℕ) (d : Entry) → n ≤ k → k < length es → nat_le (slice_index_or es k d).moment m ≡ false
after_is es m n e sorted h k d le lt =
    let same : slice_index_or es n d ≡ slice_index_or es n e = get_or_default es n d e (omega (arith, le, lt)) in
    lt_false _ _ m (sorted n k d le lt) (rw same h)
