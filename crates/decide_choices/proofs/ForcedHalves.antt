-- What a choice forces in a table, by the halves.
use Rattle.std.proofs.Common.{◌≡◌, ℕ, suc, ◌^◌, ◌↔◌, IsTrue, Bool, true, false, List, take, drop, refl, sym, ◌∙◌, subst}
use Rattle.design_cell.specs.declared.value.Value.{Value}
use Rattle.design_cell.specs.Value.{bit_value}
use Rattle.law_model.specs.Node.{table_of}
use Rattle.law_model.specs.Query.{Forces}
use Rattle.decide_choices.specs.declared.choice.Choice.{Choice}
use Rattle.decide_choices.specs.Choices.{chosen_in, bits_in, ForcesIn}
use Rattle.decide_choices.specs.Halves.{value_at}
use Rattle.decide_choices.proofs.ChoiceBits.{half_of, halves_of}
use Rattle.decide_choices.proofs.TableHalves.{forces_half, forces_side, halves_force, side_forces}

pub forced_by_value : (values : List Value) (bit : Bool) (choice : Choice) → value_at values 0 ≡ bit_value bit
    → ForcesIn values 0 bit choice
forced_by_value values bit choice is others agree = is

pub value_by_forced : (values : List Value) (bit : Bool) (choice : Choice) → ForcesIn values 0 bit choice
    → value_at values 0 ≡ bit_value bit
value_by_forced values bit choice forces = forces (bits_in choice) (λ k on. refl)

abbrev Low : List Value → ℕ → Bool → Choice → Type 0
Low values n = ForcesIn (take (2 ^ n) values) n

abbrev High : List Value → ℕ → Bool → Choice → Type 0
High values n = ForcesIn (drop (2 ^ n) values) n

module _ (values : List Value) (n : ℕ) (bit : Bool) (choice : Choice) where
  pub unchosen_forces : chosen_in choice n ≡ false → ForcesIn values (suc n) bit choice
      ↔ (Low values n bit choice × High values n bit choice)
  unchosen_forces off = (
    λ forces. (
      forces_half n (table_of values (suc n)) (half_of values n) bit (halves_of n values) (chosen_in choice)
          (bits_in choice) false off forces,
      forces_half n (table_of values (suc n)) (half_of values n) bit (halves_of n values) (chosen_in choice)
          (bits_in choice) true off forces,
    ),
    λ both. halves_force n (table_of values (suc n)) (half_of values n) bit (halves_of n values) (chosen_in choice)
        (bits_in choice) both.0 both.1,
  )

  chosen_by : (b : Bool) → chosen_in choice n ≡ true → bits_in choice n ≡ b → ForcesIn values (suc n) bit choice
      ↔ Forces (half_of values n b) (chosen_in choice) (bits_in choice) bit
  chosen_by b on is = (
    λ forces. subst (λ c. Forces (half_of values n c) (chosen_in choice) (bits_in choice) bit) is
        (forces_side n (table_of values (suc n)) (half_of values n) bit (halves_of n values) (chosen_in choice)
        (bits_in choice) on forces),
    λ forces. side_forces n (table_of values (suc n)) (half_of values n) bit (halves_of n values) (chosen_in choice)
        (bits_in choice) on
        (subst (λ c. Forces (half_of values n c) (chosen_in choice) (bits_in choice) bit) (sym is) forces),
  )

  pub zero_forces : chosen_in choice n ≡ true → bits_in choice n ≡ false → ForcesIn values (suc n) bit choice
      ↔ Low values n bit choice
  zero_forces on off = chosen_by false on off

  pub one_forces : chosen_in choice n ≡ true → bits_in choice n ≡ true → ForcesIn values (suc n) bit choice
      ↔ High values n bit choice
  one_forces on is = chosen_by true on is

-- What the code finds of a table, from what it finds of its halves.
pub by_value : (values : List Value) (count : ℕ) (bit : Bool) (choice : Choice) (found : Bool) → count ≡ 0
    → IsTrue found ↔ (value_at values 0 ≡ bit_value bit) → IsTrue found ↔ ForcesIn values count bit choice
by_value values count bit choice found none is = (
  λ on. subst (λ n. ForcesIn values n bit choice) (sym none) (forced_by_value values bit choice (is.0 on)),
  λ forces. is.1 (value_by_forced values bit choice (subst (λ n. ForcesIn values n bit choice) none forces)),
)

pub record AreHalves (values low high : List Value) (count last : ℕ) : Type 0 where
  pub next : count ≡ suc last
  pub low_is : low ≡ take (2 ^ last) values
  pub high_is : high ≡ drop (2 ^ last) values

module _ (values low high : List Value) (count last : ℕ) (are : AreHalves values low high count last) (bit : Bool)
    (choice : Choice) where
  along : {P : Type 0} → ForcesIn values (suc last) bit choice ↔ P → ForcesIn values count bit choice ↔ P
  along same = (
    λ forces. same.0 (subst (λ n. ForcesIn values n bit choice) are.next forces),
    λ p. subst (λ n. ForcesIn values n bit choice) (sym are.next) (same.1 p),
  )

  lower : ForcesIn low last bit choice ↔ Low values last bit choice
  lower = (
    λ forces. subst (λ half. ForcesIn half last bit choice) are.low_is forces,
    λ forces. subst (λ half. ForcesIn half last bit choice) (sym are.low_is) forces,
  )

  higher : ForcesIn high last bit choice ↔ High values last bit choice
  higher = (
    λ forces. subst (λ half. ForcesIn half last bit choice) are.high_is forces,
    λ forces. subst (λ half. ForcesIn half last bit choice) (sym are.high_is) forces,
  )

  pub by_both : (first second : Bool) → chosen_in choice last ≡ false → first ≡ true
      → IsTrue first ↔ ForcesIn low last bit choice → IsTrue second ↔ ForcesIn high last bit choice
      → IsTrue second ↔ ForcesIn values count bit choice
  by_both first second off on low_is high_is =
      let both = along (unchosen_forces values last bit choice off) in (
        λ found. both.1 (lower.0 (low_is.0 on), higher.0 (high_is.0 found)),
        λ forces. high_is.1 (higher.1 (both.0 forces).1),
      )

  pub by_neither : (first : Bool) → chosen_in choice last ≡ false → first ≡ false
      → IsTrue first ↔ ForcesIn low last bit choice → IsTrue first ↔ ForcesIn values count bit choice
  by_neither first off none low_is =
      let both = along (unchosen_forces values last bit choice off) in (
        λ found. (let e : false ≡ true = sym none ∙ found in cc),
        λ forces. low_is.1 (lower.1 (both.0 forces).0),
      )

  pub by_low : (found : Bool) → chosen_in choice last ≡ true → bits_in choice last ≡ false
      → IsTrue found ↔ ForcesIn low last bit choice → IsTrue found ↔ ForcesIn values count bit choice
  by_low found on off low_is =
      let same = along (zero_forces values last bit choice on off) in (
        λ yes. same.1 (lower.0 (low_is.0 yes)),
        λ forces. low_is.1 (lower.1 (same.0 forces)),
      )

  pub by_high : (found : Bool) → chosen_in choice last ≡ true → bits_in choice last ≡ true
      → IsTrue found ↔ ForcesIn high last bit choice → IsTrue found ↔ ForcesIn values count bit choice
  by_high found on is high_is =
      let same = along (one_forces values last bit choice on is) in (
        λ yes. same.1 (higher.0 (high_is.0 yes)),
        λ forces. high_is.1 (higher.1 (same.0 forces)),
      )
