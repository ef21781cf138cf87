-- Where no choice forces, and tables of no arguments.
use Rattle.std.proofs.Common.{◌≡◌, ◌≢◌, ℕ, ◌<◌, ◌≤◌, ◌^◌, Bool, true, false, List, [], ◌∷◌, length, refl, sym, ap, ◌∙◌, arith, ⊎_elim, Contains}
use Rattle.std.proofs.Math.Pow.{pow-lt}
use Rattle.std.proofs.lemmas.Bool.{cases_Bool, cases_eq, cases_lt}
use Rattle.std.proofs.lemmas.List.{get_or_default}
use Rattle.std.proofs.lemmas.List.Elements.{All-nil, All-cons}
use Rattle.design_cell.specs.declared.value.Value.{Value}
use Rattle.design_cell.specs.declared.value.Value.TheVariants.{X}
use Rattle.design_cell.specs.Value.{bit_value}
use Rattle.law_model.specs.Mask.{mask_of}
use Rattle.law_model.specs.Node.{upto, table_of}
use Rattle.law_model.specs.Places.{among}
use Rattle.law_model.specs.Query.{IsChoice}
use Rattle.decide_choices.specs.Choices.{bit_in, IsAmong, IsMinimalIn, IsValueTable, AreChoices, nothing_chosen}
use Rattle.decide_choices.specs.Halves.{value_at}
use Rattle.decide_choices.proofs.ChoiceBits.{bit_past, upto_small}

-- A table without the bit has no choice.
pub none_forces : (values : List Value) (count : ℕ) (bit : Bool) → IsValueTable count values
    → (Contains values (bit_value bit) → ⊥) → AreChoices values count bit []
none_forces values count bit is none = record {
  among = All-nil (IsAmong count);
  each = All-nil (IsMinimalIn values count bit);
  all = λ chosen bits choice. absurd (none (at_number bits choice));
  once = λ i j d less within. absurd (omega arith);
}
  where
    at_number : {chosen : ℕ → Bool} (bits : ℕ → Bool) → IsChoice (upto count) (table_of values count) chosen bits bit
        → Contains values (bit_value bit)
    at_number bits choice =
        let number = mask_of (upto count) bits in
        let within : number < length values = (let small = upto_small count bits in let long = is.long in
        omega (arith, small, long)) in
        (number, within, get_or_default values number (bit_value bit) X within ∙ choice.forces bits (λ k on. refl))

-- The one choice of a table of no arguments that has the bit.
pub one_forces : (values : List Value) (bit : Bool) → IsValueTable 0 values → Contains values (bit_value bit)
    → AreChoices values 0 bit (nothing_chosen ∷ [])
one_forces values bit is at = record {
  among = All-cons (IsAmong 0) nothing_chosen [] among_none (All-nil (IsAmong 0));
  each = All-cons (IsMinimalIn values 0 bit) nothing_chosen [] minimal (All-nil (IsMinimalIn values 0 bit));
  all = λ chosen bits choice. record {
    choice = nothing_chosen;
    inside = (0, omega arith, refl);
    stands = record {
      is_chosen = λ k. unset k ∙ sym (off chosen (choice.among_arguments) k);
      has_bits = λ k on. (let e : false ≡ true = sym (off chosen (choice.among_arguments) k) ∙ on in cc);
    };
  };
  once = λ i j d less within. absurd (omega arith);
}
  where
    unset : (k : ℕ) → bit_in 0 k ≡ false
    unset k = bit_past 0 0 k (omega arith) (omega arith)

    off : (chosen : ℕ → Bool) → ((k : ℕ) → chosen k ≡ true → among [] k ≡ true) → (k : ℕ) → chosen k ≡ false
    off chosen inside k = ⊎_elim (λ (on : chosen k ≡ true). (let e : false ≡ true = inside k on in cc))
        (λ (none : chosen k ≡ false). none) (cases_Bool (chosen k))

    first : value_at values 0 ≡ bit_value bit
    first =
        let less = at.1 in
        let long = is.long in
        let none : at.0 ≡ 0 = omega (arith, less, long) in
        sym (ap (value_at values) none) ∙ get_or_default values at.0 X (bit_value bit) at.1 ∙ at.2

    among_none : IsAmong 0 nothing_chosen
    among_none = record {
      care = omega arith;
      bits = omega arith;
      no_other = λ k on. (let e : false ≡ true = sym (unset k) ∙ on in cc);
    }

    minimal : IsMinimalIn values 0 bit nothing_chosen
    minimal = record {
      among_arguments = λ k on. (let e : false ≡ true = sym (unset k) ∙ on in cc);
      forces = λ others agree. first;
      minimal = λ k on forced. (let e : false ≡ true = sym (unset k) ∙ on in cc);
    }

-- A table has one number of arguments.
pub one_count : (a b : ℕ) → 2 ^ a ≡ 2 ^ b → a ≡ b
one_count a b same = ⊎_elim (λ (less : a < b). absurd (let up = pow-lt less in omega (arith, up, same)))
    (λ (other : b ≤ a). ⊎_elim (λ (e : a ≡ b). e)
    (λ (e : a ≢ b). absurd (let more : b < a = omega arith in let up = pow-lt more in omega (arith, up, same)))
    (cases_eq a b)) (cases_lt a b)
