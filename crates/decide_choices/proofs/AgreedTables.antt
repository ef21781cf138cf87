-- Tables that have a bit just where two tables have it.
use Rattle.std.proofs.Common.{◌≡◌, ◌≢◌, ℕ, ◌+◌, ◌<◌, ◌≤◌, Bool, true, false, List, [], ◌∷◌, ◌++◌, length, sym, ◌∙◌, arith, subst, ⊎_elim}
use Rattle.std.proofs.Math.ListN.{get_or-append}
use Rattle.std.proofs.Math.Seq.{get_or-append_seam}
use Rattle.std.proofs.lemmas.Bool.{cases_eq, cases_lt}
use Rattle.std.proofs.lemmas.List.{get_or_past}
use Rattle.design_cell.specs.declared.value.Value.{Value}
use Rattle.design_cell.specs.declared.value.Value.TheVariants.{X}
use Rattle.design_cell.specs.Value.{bit_value}
use Rattle.decide_choices.specs.Halves.{value_at, IsAgreed, AreBoth}

-- The values so far agree.
abbrev pub AgreeBelow : Bool → List Value → List Value → List Value → ℕ → Type 0
AgreeBelow bit low high both n = (k : ℕ) → k < n → IsAgreed bit (value_at low k) (value_at high k) (value_at both k)

not_x : {P : Type 0} (bit : Bool) → X ≡ bit_value bit → P
not_x false e = cc
not_x true e = cc

pub agreed_more : (bit : Bool) (low high both : List Value) (value : Value)
    → AgreeBelow bit low high both (length both)
    → IsAgreed bit (value_at low (length both)) (value_at high (length both)) value
    → AgreeBelow bit low high (both ++ value ∷ []) (length both + 1)
agreed_more bit low high both value below here k less = ⊎_elim
    (λ (last : k ≡ length both). subst (λ i. IsAgreed bit (value_at low i) (value_at high i)
    (value_at (both ++ value ∷ []) i)) (sym last)
    (subst (IsAgreed bit (value_at low (length both)) (value_at high (length both)))
    (sym (get_or-append_seam both value [] X)) here))
    (λ (other : k ≢ length both). (let within : k < length both = omega arith in
    subst (IsAgreed bit (value_at low k) (value_at high k)) (sym (get_or-append both (value ∷ []) X k within))
    (below k within))) (cases_eq k (length both))

past : (xs : List Value) (k : ℕ) → length xs ≤ k → value_at xs k ≡ X
past xs k over = get_or_past xs k X over

pub agreed_all : (bit : Bool) (low high both : List Value) → length high ≡ length low → length both ≡ length low
    → AgreeBelow bit low high both (length low) → AreBoth bit low high both
agreed_all bit low high both same long below k = ⊎_elim (λ (less : k < length low). below k less)
    (λ (over : length low ≤ k). record {
      to_both = λ low_is high_is. not_x bit (sym (past low k over) ∙ low_is);
      from_low = λ is. not_x bit (sym (past both k (omega (arith, over, long))) ∙ is);
      from_high = λ is. not_x bit (sym (past both k (omega (arith, over, long))) ∙ is);
    }) (cases_lt k (length low))
