-- The choices of a table from those of its halves and of the table that has the bit where both have it.
use Rattle.std.proofs.Common.{◌≡◌, ◌≢◌, ℕ, suc, ◌^◌, not, Bool, true, false, List, take, drop, refl, sym, ap, ◌∙◌, subst, inl, inr, ◌⊎◌, ⊎_elim, Contains, slice_index_or}
use Rattle.std.proofs.lemmas.Bool.{cases_Bool, cases_eq}
use Rattle.std.proofs.lemmas.List.Elements.{All-contains, Contains-get_or}
use Rattle.std.specs.List.{All}
use Rattle.design_cell.specs.declared.value.Value.{Value}
use Rattle.law_model.specs.Assignment.{with_bit}
use Rattle.law_model.specs.Node.{upto, table_of}
use Rattle.law_model.specs.Query.{Forces, IsChoice}
use Rattle.decide_choices.specs.declared.choice.Choice.{Choice}
use Rattle.decide_choices.specs.Choices.{chosen_in, bits_in, IsMinimalIn, IsAmong, StandsFor, IsFoundChoice, AreChoices}
use Rattle.decide_choices.specs.Halves.{with_argument, AreBoth, IsAlone, AreAdded}
use Rattle.decide_choices.proofs.ChoiceBits.{among_more, among_with, bits_with, chosen_past, chosen_with, half_of, halves_split}
use Rattle.decide_choices.proofs.TableHalves.{Splits, with_same, with_other, free_up, free_down, taken_up, taken_down, taken_alone}

all_from : (P : Choice → Type 0) (xs : List Choice) → ((x : Choice) → Contains xs x → P x) → All P xs
all_from P xs each k d less = each (slice_index_or xs k d) (Contains-get_or xs k d less)

-- Three lists of choices, of the table of both halves, of the low half and of the high half, put together.
pub record AreParts (n : ℕ) (bit : Bool) (values both : List Value) (free zeros ones some choices : List Choice)
    : Type 0 where
  pub agreed : AreBoth bit (take (2 ^ n) values) (drop (2 ^ n) values) both
  pub are_free : AreChoices both n bit free
  pub are_zeros : AreChoices (take (2 ^ n) values) n bit zeros
  pub are_ones : AreChoices (drop (2 ^ n) values) n bit ones
  pub first : AreAdded (drop (2 ^ n) values) n bit false free zeros some
  pub second : AreAdded (take (2 ^ n) values) n bit true some ones choices

module _ (n : ℕ) (bit : Bool) (values both : List Value) (free zeros ones some choices : List Choice)
    (are : AreParts n bit values both free zeros ones some choices) where
  -- What a choice of the table is by.
  data Origin : Choice → Type 0 where
    of_free : (choice : Choice) → Contains free choice → Origin choice
    of_low : (choice : Choice) → IsAlone (drop (2 ^ n) values) n bit zeros choice
        → Origin (with_argument n false choice)
    of_high : (choice : Choice) → IsAlone (take (2 ^ n) values) n bit ones choice → Origin (with_argument n true choice)

  early : (choice : Choice) → Contains some choice → Origin choice
  early choice at = ⊎_elim (λ (old : Contains free choice). of_free choice old)
      (λ (one : (c : Choice) × IsAlone (drop (2 ^ n) values) n bit zeros c × (choice ≡ with_argument n false c)).
      subst Origin (sym one.2) (of_low one.0 one.1)) (are.first.each choice at)

  origin : (choice : Choice) → Contains choices choice → Origin choice
  origin choice at = ⊎_elim (λ (old : Contains some choice). early choice old)
      (λ (one : (c : Choice) × IsAlone (take (2 ^ n) values) n bit ones c × (choice ≡ with_argument n true c)).
      subst Origin (sym one.2) (of_high one.0 one.1)) (are.second.each choice at)

  splits : Splits n (table_of values (suc n)) (half_of values n) (table_of both n) bit
  splits = halves_split n bit values both are.agreed

  free_among : (c : Choice) → Contains free c → IsAmong n c
  free_among c at = All-contains (IsAmong n) free c are.are_free.among at

  zero_among : (c : Choice) → Contains zeros c → IsAmong n c
  zero_among c at = All-contains (IsAmong n) zeros c are.are_zeros.among at

  one_among : (c : Choice) → Contains ones c → IsAmong n c
  one_among c at = All-contains (IsAmong n) ones c are.are_ones.among at

  among_of : (choice : Choice) → Origin choice → IsAmong (suc n) choice
  among_of _ (of_free c at) = among_more n c (free_among c at)
  among_of _ (of_low c is) = among_with n false c (zero_among c is.inside)
  among_of _ (of_high c is) = among_with n true c (one_among c is.inside)

  -- A minimal choice of a half that doesn't force the bit in the other.
  taken_minimal : (last : Bool) (c : Choice) → IsAmong n c
      → IsChoice (upto n) (half_of values n last) (chosen_in c) (bits_in c) bit
      → (Forces (half_of values n (not last)) (chosen_in c) (bits_in c) bit → ⊥)
      → IsMinimalIn values (suc n) bit (with_argument n last c)
  taken_minimal last c among is alone =
      subst (λ chosen. IsChoice (upto (suc n)) (table_of values (suc n)) chosen (bits_in (with_argument n last c)) bit)
      (sym (chosen_with n last c among))
      (subst (λ bits. IsChoice (upto (suc n)) (table_of values (suc n)) (with_bit n true (chosen_in c)) bits bit)
      (sym (bits_with n last c among))
      (taken_up n (table_of values (suc n)) (half_of values n) (table_of both n) bit splits (chosen_in c) (bits_in c)
      last is alone))

  minimal_of : (choice : Choice) → Origin choice → IsMinimalIn values (suc n) bit choice
  minimal_of _ (of_free c at) = free_up n (table_of values (suc n)) (half_of values n) (table_of both n) bit splits
      (chosen_in c) (bits_in c) (All-contains (IsMinimalIn both n bit) free c are.are_free.each at)
  minimal_of _ (of_low c is) = taken_minimal false c (zero_among c is.inside)
      (All-contains (IsMinimalIn (take (2 ^ n) values) n bit) zeros c are.are_zeros.each is.inside) is.alone
  minimal_of _ (of_high c is) = taken_minimal true c (one_among c is.inside)
      (All-contains (IsMinimalIn (drop (2 ^ n) values) n bit) ones c are.are_ones.each is.inside) is.alone

  -- Each minimal choice of the table is there.
  stands_with : (last : Bool) (c : Choice) (chosen bits : ℕ → Bool) → IsAmong n c → chosen n ≡ true → bits n ≡ last
      → StandsFor c (with_bit n false chosen) bits → StandsFor (with_argument n last c) chosen bits
  stands_with last c chosen bits among on is stands = record {
    is_chosen = λ k. ap (λ f. f k) (chosen_with n last c among) ∙ own k (cases_eq k n);
    has_bits = λ k taken. ap (λ f. f k) (bits_with n last c among) ∙ own_bit k taken (cases_eq k n);
  }
    where
      own : (k : ℕ) → (k ≡ n) ⊎ (k ≢ n) → with_bit n true (chosen_in c) k ≡ chosen k
      own k (inl e) = subst (λ i. with_bit n true (chosen_in c) i ≡ chosen i) (sym e)
          (with_same n true (chosen_in c) ∙ sym on)
      own k (inr e) = with_other n true (chosen_in c) k e ∙ stands.is_chosen k ∙ with_other n false chosen k e

      own_bit : (k : ℕ) → chosen k ≡ true → (k ≡ n) ⊎ (k ≢ n) → with_bit n last (bits_in c) k ≡ bits k
      own_bit k taken (inl e) = subst (λ i. with_bit n last (bits_in c) i ≡ bits i) (sym e)
          (with_same n last (bits_in c) ∙ sym is)
      own_bit k taken (inr e) = with_other n last (bits_in c) k e
          ∙ stands.has_bits k (with_other n false chosen k e ∙ taken)

  found_left : (chosen bits : ℕ → Bool) → IsFoundChoice free chosen bits → IsFoundChoice choices chosen bits
  found_left chosen bits found = record {
    choice = found.choice;
    inside = are.second.kept found.choice (are.first.kept found.choice found.inside);
    stands = found.stands;
  }

  -- What a choice of a half forces in the other half.
  forced_as : (table : (ℕ → Bool) → Value) (c : Choice) (chosen bits : ℕ → Bool) → StandsFor c chosen bits
      → Forces table (chosen_in c) (bits_in c) bit → Forces table chosen bits bit
  forced_as table c chosen bits stands forced others agree = forced others
      (λ k on. (let taken : chosen k ≡ true = sym (stands.is_chosen k) ∙ on in
      agree k taken ∙ sym (stands.has_bits k taken)))

  found_taken : (last : Bool) (chosen bits : ℕ → Bool) → chosen n ≡ true → bits n ≡ last
      → IsChoice (upto (suc n)) (table_of values (suc n)) chosen bits bit → IsFoundChoice choices chosen bits
  found_taken false chosen bits on is choice = record {
    choice = with_argument n false found.choice;
    inside = are.second.kept (with_argument n false found.choice) (are.first.added found.choice alone);
    stands = stands_with false found.choice chosen bits (zero_among found.choice found.inside) on is found.stands;
  }
    where
      found : IsFoundChoice zeros (with_bit n false chosen) bits
      found = are.are_zeros.all (with_bit n false chosen) bits
          (subst (λ b. IsChoice (upto n) (half_of values n b) (with_bit n false chosen) bits bit) is
          (taken_down n (table_of values (suc n)) (half_of values n)
          (table_of both n) bit splits chosen bits on choice))

      alone : IsAlone (drop (2 ^ n) values) n bit zeros found.choice
      alone = record {
        inside = found.inside;
        alone = λ forced. taken_alone n (table_of values (suc n)) (half_of values n) (table_of both n) bit splits chosen
            bits on choice
            (subst (λ b. Forces (half_of values n (not b)) (with_bit n false chosen) bits bit) (sym is)
            (forced_as (half_of values n true) found.choice (with_bit n false chosen) bits found.stands forced));
      }
  found_taken true chosen bits on is choice = record {
    choice = with_argument n true found.choice;
    inside = are.second.added found.choice alone;
    stands = stands_with true found.choice chosen bits (one_among found.choice found.inside) on is found.stands;
  }
    where
      found : IsFoundChoice ones (with_bit n false chosen) bits
      found = are.are_ones.all (with_bit n false chosen) bits
          (subst (λ b. IsChoice (upto n) (half_of values n b) (with_bit n false chosen) bits bit) is
          (taken_down n (table_of values (suc n)) (half_of values n)
          (table_of both n) bit splits chosen bits on choice))

      alone : IsAlone (take (2 ^ n) values) n bit ones found.choice
      alone = record {
        inside = found.inside;
        alone = λ forced. taken_alone n (table_of values (suc n)) (half_of values n) (table_of both n) bit splits chosen
            bits on choice
            (subst (λ b. Forces (half_of values n (not b)) (with_bit n false chosen) bits bit) (sym is)
            (forced_as (half_of values n false) found.choice (with_bit n false chosen) bits found.stands forced));
      }

  all_found : (chosen bits : ℕ → Bool) → IsChoice (upto (suc n)) (table_of values (suc n)) chosen bits bit
      → IsFoundChoice choices chosen bits
  all_found chosen bits is = ⊎_elim
      (λ (on : chosen n ≡ true). found_taken (bits n) chosen bits on refl is)
      (λ (off : chosen n ≡ false). found_left chosen bits (are.are_free.all chosen bits
      (free_down n (table_of values (suc n)) (half_of values n) (table_of both n) bit splits chosen bits off is)))
      (cases_Bool (chosen n))

  -- None stands twice: they differ in whether the last argument is chosen, and in its bit.
  last_chosen : (last : Bool) (c : Choice) → IsAmong n c → chosen_in (with_argument n last c) n ≡ true
  last_chosen last c among = ap (λ f. f n) (chosen_with n last c among) ∙ with_same n true (chosen_in c)

  last_bit : (last : Bool) (c : Choice) → IsAmong n c → bits_in (with_argument n last c) n ≡ last
  last_bit last c among = ap (λ f. f n) (bits_with n last c among) ∙ with_same n last (bits_in c)

  free_apart : (last : Bool) (a b : Choice) → Contains free a → IsAmong n b → a ≢ with_argument n last b
  free_apart last a b at among same =
      let e : false ≡ true = sym (chosen_past n a (free_among a at)) ∙ ap (λ c. chosen_in c n) same
      ∙ last_chosen last b among in cc

  some_apart : (a b : Choice) → Contains some a → Contains ones b → a ≢ with_argument n true b
  some_apart a b at other same = ⊎_elim
      (λ (old : Contains free a). free_apart true a b old (one_among b other) same)
      (λ (one : (c : Choice) × IsAlone (drop (2 ^ n) values) n bit zeros c × (a ≡ with_argument n false c)).
      (let e : false ≡ true = sym (last_bit false one.0 (zero_among one.0 one.1.inside))
      ∙ ap (λ c. bits_in c n) (sym one.2 ∙ same) ∙ last_bit true b (one_among b other) in cc))
      (are.first.each a at)

  pub parts_joined : AreChoices values (suc n) bit choices
  parts_joined = record {
    among = all_from (IsAmong (suc n)) choices (λ c at. among_of c (origin c at));
    each = all_from (IsMinimalIn values (suc n) bit) choices (λ c at. minimal_of c (origin c at));
    all = all_found;
    once = are.second.once
        (are.first.once are.are_free.once are.are_zeros.once
        (λ a b at other. free_apart false a b at (zero_among b other)))
        are.are_ones.once some_apart;
  }

-- The same, of halves that are told by equations.
pub halves_joined : (count n : ℕ) (bit : Bool) (values low high both : List Value)
    (free zeros ones some choices : List Choice) → count ≡ suc n → low ≡ take (2 ^ n) values
    → high ≡ drop (2 ^ n) values → AreBoth bit low high both → AreChoices both n bit free → AreChoices low n bit zeros
    → AreAdded high n bit false free zeros some → AreChoices high n bit ones
    → AreAdded low n bit true some ones choices → AreChoices values count bit choices
halves_joined count n bit values low high both free zeros ones some choices next low_is high_is agreed are_free are_zeros
    first are_ones second = subst (λ m. AreChoices values m bit choices) (sym next)
    (parts_joined n bit values both free zeros ones some choices (record {
      agreed = subst (λ half. AreBoth bit half (drop (2 ^ n) values) both) low_is
          (subst (λ half. AreBoth bit low half both) high_is agreed);
      are_free = are_free;
      are_zeros = subst (λ half. AreChoices half n bit zeros) low_is are_zeros;
      are_ones = subst (λ half. AreChoices half n bit ones) high_is are_ones;
      first = subst (λ half. AreAdded half n bit false free zeros some) high_is first;
      second = subst (λ half. AreAdded half n bit true some ones choices) low_is second;
    }))
