-- Clauses of choices, over any literals: valuations that obey a table make its clauses true.
use Rattle.std.proofs.Common.{◌≡◌, ℕ, ◌&&◌, not, Bool, true, false, List, refl, sym, ◌∙◌, ⊎_elim}
use Rattle.std.specs.Prelude.{ℤ}
use Rattle.std.specs.List.{list_any}
use Rattle.std.proofs.lemmas.Bool.{cases_Bool, and_parts, and_from, not-false}
use Rattle.design_cell.specs.declared.value.Value.{Value}
use Rattle.design_cell.specs.Value.{bit_value}
use Rattle.sat_proof.specs.Assignment.{value_of, IsMet}
use Rattle.law_model.specs.Places.{among}
use Rattle.law_model.specs.Class.{flipped}
use Rattle.law_model.specs.Query.{signed, IsChoice, IsClause}
use Rattle.law_model.proofs.PlacesWhere.{any_in, in_any}

-- A place's literals say what bit it has.
abbrev pub Says : (ℕ → Bool → ℤ) → (ℕ → Bool) → (ℕ → Bool) → ℕ → Type 0
Says says model v place = (bit : Bool) → value_of model (says place bit) ≡ flipped (not bit) (v place)

pub value_signed : (model : ℕ → Bool) (n : ℕ) (bit : Bool) → value_of model (signed n bit) ≡ flipped (not bit) (model n)
value_signed model n false = refl
value_signed model n true = refl

pub flipped_back : (inverted bit x : Bool)
    → flipped (not (flipped inverted bit)) x ≡ flipped (not bit) (flipped inverted x)
flipped_back false bit x = refl
flipped_back true false false = refl
flipped_back true false true = refl
flipped_back true true x = refl

pub flipped_twice : (a b x : Bool) → flipped (flipped a b) x ≡ flipped a (flipped b x)
flipped_twice false b x = refl
flipped_twice true false x = refl
flipped_twice true true false = refl
flipped_twice true true true = refl

pub is_bit : (x bit : Bool) → flipped (not bit) x ≡ true → x ≡ bit
is_bit false false h = refl
is_bit false true h = cc
is_bit true false h = cc
is_bit true true h = refl

pub bit_is : (x bit : Bool) → x ≡ bit → flipped (not bit) x ≡ true
bit_is false false h = refl
bit_is false true h = cc
bit_is true false h = cc
bit_is true true h = refl

pub other_bit : (x bit : Bool) → not (flipped (not bit) x) ≡ true → flipped (not (not bit)) x ≡ true
other_bit false false h = cc
other_bit false true h = refl
other_bit true false h = refl
other_bit true true h = cc

-- Bits that obey a table make the clause of each of its choices true.
pub choice_met : (says : ℕ → Bool → ℤ) (model v : ℕ → Bool) (arguments : List ℕ) (table : (ℕ → Bool) → Value)
    (place : ℕ) (chosen bits : ℕ → Bool) (bit : Bool) (clause : List ℤ)
    → ((k : ℕ) → among arguments k ≡ true → Says says model v k) → Says says model v place
    → (table v ≡ bit_value bit → v place ≡ bit) → IsChoice arguments table chosen bits bit
    → IsClause says place chosen bits bit clause → IsMet model clause
choice_met says model v arguments table place chosen bits bit clause each here obeys choice is = ⊎_elim broken kept
    (cases_Bool (list_any differs arguments))
  where
    differs : ℕ → Bool
    differs k = chosen k && not (flipped (not (bits k)) (v k))

    broken : list_any differs arguments ≡ true → IsMet model clause
    broken h =
        let at = in_any differs arguments h in
        let parts = and_parts (chosen at.0) (not (flipped (not (bits at.0)) (v at.0))) at.2 in (
          says at.0 (not (bits at.0)),
          is.denies at.0 parts.0,
          each at.0 at.1 (not (bits at.0))
              ∙ other_bit (v at.0) (bits at.0) parts.1,
        )

    agrees : list_any differs arguments ≡ false → (k : ℕ) → chosen k ≡ true → v k ≡ bits k
    agrees none k taken =
        ⊎_elim (λ (h : not (flipped (not (bits k)) (v k)) ≡ true).
        (let found : list_any differs arguments ≡ true = any_in differs arguments k (choice.among_arguments k taken)
        (and_from (chosen k) _ taken h) in let e : true ≡ false = sym found ∙ none in cc))
        (λ (h : not (flipped (not (bits k)) (v k)) ≡ false). is_bit (v k) (bits k) (not-false _ h))
        (cases_Bool (not (flipped (not (bits k)) (v k))))

    kept : list_any differs arguments ≡ false → IsMet model clause
    kept none = (says place bit, is.gives, here bit ∙ bit_is (v place) bit (obeys (choice.forces v (agrees none))))
