-- The minimal choices of a table by those of its halves, in which the last argument is 0 and 1.
use Rattle.std.proofs.Common.{◌≡◌, ◌≢◌, ℕ, suc, ◌<◌, not, Bool, true, false, refl, sym, ap, ◌∙◌, arith, subst, inl, inr, ◌⊎◌, ⊎_elim}
use Rattle.std.proofs.lemmas.Bool.{cases_Bool, cases_eq}
use Rattle.std.proofs.lemmas.Bool.Decides.{eqb_tells}
use Rattle.design_cell.specs.declared.value.Value.{Value}
use Rattle.design_cell.specs.Value.{bit_value}
use Rattle.law_model.specs.Assignment.{with_bit}
use Rattle.law_model.specs.Node.{upto}
use Rattle.law_model.specs.Places.{among}
use Rattle.law_model.specs.Query.{Forces, IsChoice}
use Rattle.law_model.proofs.PlacesWhere.{picked_in, in_picked}

pub with_same : (n : ℕ) (b : Bool) (f : ℕ → Bool) → with_bit n b f n ≡ b
with_same n b f = elim (eqb_tells n n) as (λ _. with_bit n b f n ≡ b) [
  | inl p ↦ rw p.0 refl
  | inr p ↦ absurd (p.1 refl)
]

pub with_other : (n : ℕ) (b : Bool) (f : ℕ → Bool) (k : ℕ) → k ≢ n → with_bit n b f k ≡ f k
with_other n b f k apart = elim (eqb_tells k n) as (λ _. with_bit n b f k ≡ f k) [
  | inl p ↦ absurd (apart p.1)
  | inr p ↦ rw p.0 refl
]

clash : (b : Bool) → b ≡ false → b ≡ true → ⊥
clash b off on = let e : false ≡ true = sym off ∙ on in cc

-- A place that stays chosen where one is left out was chosen, and isn't that one.
still : (chosen : ℕ → Bool) (n k : ℕ) → with_bit n false chosen k ≡ true → (k ≢ n) × (chosen k ≡ true)
still chosen n k on = (apart, sym (with_other n false chosen k apart) ∙ on)
  where
    apart : k ≢ n
    apart same = clash (with_bit n false chosen n) (with_same n false chosen)
        (subst (λ i. with_bit n false chosen i ≡ true) same on)

kept : (chosen : ℕ → Bool) (n k : ℕ) → k ≢ n → chosen k ≡ true → with_bit n false chosen k ≡ true
kept chosen n k apart on = with_other n false chosen k apart ∙ on

-- A table of n + 1 arguments and its halves,
pub record Halves (n : ℕ) (table : (ℕ → Bool) → Value) (half : Bool → (ℕ → Bool) → Value) : Type 0 where
  pub whole : (f : ℕ → Bool) → table f ≡ half (f n) f
  pub reads : (f g : ℕ → Bool) (b : Bool) → ((k : ℕ) → k < n → f k ≡ g k) → half b f ≡ half b g

-- and a table that has the bit where both halves have it.
pub record Splits (n : ℕ) (table : (ℕ → Bool) → Value) (half : Bool → (ℕ → Bool) → Value)
    (both : (ℕ → Bool) → Value) (bit : Bool) : Type 0 where
  pub halves : Halves n table half
  pub to_both : (f : ℕ → Bool) → half false f ≡ bit_value bit → half true f ≡ bit_value bit → both f ≡ bit_value bit
  pub from_both : (f : ℕ → Bool) (b : Bool) → both f ≡ bit_value bit → half b f ≡ bit_value bit

fewer : (table : (ℕ → Bool) → Value) (small large bits : ℕ → Bool) (bit : Bool)
    → ((k : ℕ) → small k ≡ true → large k ≡ true) → Forces table small bits bit → Forces table large bits bit
fewer table small large bits bit more forces others agree = forces others (λ k on. agree k (more k on))

upto_below : (n k : ℕ) → among (upto n) k ≡ true → k < n
upto_below n k at = (in_picked (λ i. true) n k at).0

below_upto : (n k : ℕ) → k < n → among (upto n) k ≡ true
below_upto n k less = picked_in (λ i. true) n k less refl

module _ (n : ℕ) (table : (ℕ → Bool) → Value) (half : Bool → (ℕ → Bool) → Value) (bit : Bool)
    (s : Halves n table half) (chosen bits : ℕ → Bool) where
  -- Where the last argument is chosen, the half of its bit decides.
  pub forces_side : chosen n ≡ true → Forces table chosen bits bit → Forces (half (bits n)) chosen bits bit
  forces_side on forces others agree =
      ap (λ b. half b others) (sym (agree n on)) ∙ sym (s.whole others) ∙ forces others agree

  pub side_forces : chosen n ≡ true → Forces (half (bits n)) chosen bits bit → Forces table chosen bits bit
  side_forces on forces others agree =
      s.whole others ∙ ap (λ b. half b others) (agree n on) ∙ forces others agree

  -- Where it isn't, both do.
  pub forces_half : (b : Bool) → chosen n ≡ false → Forces table chosen bits bit → Forces (half b) chosen bits bit
  forces_half b off forces others agree =
      s.reads others (with_bit n b others) b (λ k less. sym (with_other n b others k (λ e. omega (arith, e, less))))
      ∙ ap (λ c. half c (with_bit n b others)) (sym (with_same n b others)) ∙ sym (s.whole (with_bit n b others))
      ∙ forces (with_bit n b others) (λ k on. with_other n b others k (apart k on) ∙ agree k on)
    where
      apart : (k : ℕ) → chosen k ≡ true → k ≢ n
      apart k on same = clash (chosen n) off (subst (λ i. chosen i ≡ true) same on)

  pub halves_force : Forces (half false) chosen bits bit → Forces (half true) chosen bits bit
      → Forces table chosen bits bit
  halves_force zero one others agree = s.whole others ∙ either (others n)
    where
      either : (b : Bool) → half b others ≡ bit_value bit
      either false = zero others agree
      either true = one others agree

  -- The halves don't read the last argument.
  pub half_unread : (b : Bool) → Forces (half b) chosen bits bit
      → Forces (half b) (with_bit n false chosen) bits bit
  half_unread b forces others agree =
      s.reads others (with_bit n (bits n) others) b
      (λ k less. sym (with_other n (bits n) others k (λ e. omega (arith, e, less))))
      ∙ forces (with_bit n (bits n) others) same
    where
      same : (k : ℕ) → chosen k ≡ true → with_bit n (bits n) others k ≡ bits k
      same k on = ⊎_elim (λ (e : k ≡ n). subst (λ i. with_bit n (bits n) others i ≡ bits i) (sym e)
          (with_same n (bits n) others))
          (λ (e : k ≢ n). with_other n (bits n) others k e ∙ agree k (kept chosen n k e on)) (cases_eq k n)

module _ (n : ℕ) (table : (ℕ → Bool) → Value) (half : Bool → (ℕ → Bool) → Value) (both : (ℕ → Bool) → Value)
    (bit : Bool) (s : Splits n table half both bit) (chosen bits : ℕ → Bool) where
  halves_both : Forces (half false) chosen bits bit → Forces (half true) chosen bits bit
      → Forces both chosen bits bit
  halves_both zero one others agree = s.to_both others (zero others agree) (one others agree)

  both_forces : Forces both chosen bits bit → Forces table chosen bits bit
  both_forces forces others agree = s.halves.whole others ∙ s.from_both others (others n) (forces others agree)

  forces_both : chosen n ≡ false → Forces table chosen bits bit → Forces both chosen bits bit
  forces_both off forces = halves_both (forces_half n table half bit s.halves chosen bits false off forces)
      (forces_half n table half bit s.halves chosen bits true off forces)

module _ (n : ℕ) (table : (ℕ → Bool) → Value) (half : Bool → (ℕ → Bool) → Value) (both : (ℕ → Bool) → Value)
    (bit : Bool) (s : Splits n table half both bit) (chosen bits : ℕ → Bool) where
  -- The minimal choices that leave the last argument out are those of the table that both halves make.
  pub unchosen_last : IsChoice (upto n) both chosen bits bit → chosen n ≡ false
  unchosen_last is = ⊎_elim (λ (on : chosen n ≡ true). absurd (let less = upto_below n n (is.among_arguments n on) in
      omega (arith, less))) (λ (off : chosen n ≡ false). off) (cases_Bool (chosen n))

  pub free_up : IsChoice (upto n) both chosen bits bit → IsChoice (upto (suc n)) table chosen bits bit
  free_up is = record {
    among_arguments = λ k on. (let less = upto_below n k (is.among_arguments k on) in below_upto (suc n) k
        (omega (arith, less)));
    forces = both_forces n table half both bit s chosen bits is.forces;
    minimal = λ k on forced. is.minimal k on
        (forces_both n table half both bit s (with_bit k false chosen) bits (off k on) forced);
  }
    where
      off : (k : ℕ) → chosen k ≡ true → with_bit k false chosen n ≡ false
      off k on = with_other k false chosen n
          (λ e. clash (chosen n) (unchosen_last is) (subst (λ i. chosen i ≡ true) (sym e) on)) ∙ unchosen_last is

  pub free_down : chosen n ≡ false → IsChoice (upto (suc n)) table chosen bits bit
      → IsChoice (upto n) both chosen bits bit
  free_down off is = record {
    among_arguments = λ k on. (let less = upto_below (suc n) k (is.among_arguments k on) in
        let apart : k ≢ n = λ e. clash (chosen n) off (subst (λ i. chosen i ≡ true) e on) in
        below_upto n k (omega (arith, less, apart)));
    forces = forces_both n table half both bit s chosen bits off is.forces;
    minimal = λ k on forced. is.minimal k on
        (both_forces n table half both bit s (with_bit k false chosen) bits forced);
  }

  -- Those that choose it are those of the half of its bit that don't force the bit in the other half.
  pub taken_up : (b : Bool) → IsChoice (upto n) (half b) chosen bits bit
      → (Forces (half (not b)) chosen bits bit → ⊥)
      → IsChoice (upto (suc n)) table (with_bit n true chosen) (with_bit n b bits) bit
  taken_up b is alone = record {
    among_arguments = λ k on. inside k (cases_eq k n) on;
    forces = side_forces n table half bit s.halves all all_bits (with_same n true chosen)
        (subst (λ c. Forces (half c) all all_bits bit) (sym (with_same n b bits))
        (λ others agree. is.forces others
        (λ k on. agree k (more k on) ∙ with_other n b bits k (apart k on))));
    minimal = λ k on forced. least k on (cases_eq k n) forced;
  }
    where
      all : ℕ → Bool
      all = with_bit n true chosen

      all_bits : ℕ → Bool
      all_bits = with_bit n b bits

      apart : (k : ℕ) → chosen k ≡ true → k ≢ n
      apart k on same = let less = upto_below n k (is.among_arguments k on) in omega (arith, less, same)

      more : (k : ℕ) → chosen k ≡ true → all k ≡ true
      more k on = with_other n true chosen k (apart k on) ∙ on

      inside : (k : ℕ) → (k ≡ n) ⊎ (k ≢ n) → all k ≡ true → among (upto (suc n)) k ≡ true
      inside k (inl e) on = below_upto (suc n) k (omega (arith, e))
      inside k (inr e) on =
          let less = upto_below n k (is.among_arguments k (sym (with_other n true chosen k e) ∙ on)) in
          below_upto (suc n) k (omega (arith, less))

      least : (k : ℕ) → all k ≡ true → (k ≡ n) ⊎ (k ≢ n) → Forces table (with_bit k false all) all_bits bit → ⊥
      least k on (inl e) forced = alone (λ others agree. other_half others (λ i left. agree_there others agree i left))
        where
          without : ℕ → Bool
          without = with_bit n false all

          here : Forces table without all_bits bit
          here = subst (λ i. Forces table (with_bit i false all) all_bits bit) e forced

          other_half : Forces (half (not b)) without all_bits bit
          other_half = forces_half n table half bit s.halves without all_bits (not b) (with_same n false all) here

          agree_there : (others : ℕ → Bool) → ((i : ℕ) → chosen i ≡ true → others i ≡ bits i) → (i : ℕ)
              → without i ≡ true → others i ≡ all_bits i
          agree_there others agree i left =
              let parts = still all n i left in
              agree i (sym (with_other n true chosen i parts.0) ∙ parts.1) ∙ sym (with_other n b bits i parts.0)
      least k on (inr e) forced = is.minimal k (sym (with_other n true chosen k e) ∙ on)
          (λ others agree. s.halves.reads others (with_bit n b others) b
          (λ i less. sym (with_other n b others i (λ same. omega (arith, same, less))))
          ∙ in_half (with_bit n b others) (λ i left. agree_there others agree i left (cases_eq i n)))
        where
          without : ℕ → Bool
          without = with_bit k false all

          in_half : Forces (half b) without all_bits bit
          in_half = subst (λ c. Forces (half c) without all_bits bit) (with_same n b bits)
              (forces_side n table half bit s.halves without all_bits
              (with_other k false all n (λ same. e (sym same)) ∙ with_same n true chosen) forced)

          agree_there : (others : ℕ → Bool) → ((i : ℕ) → with_bit k false chosen i ≡ true → others i ≡ bits i)
              → (i : ℕ) → without i ≡ true → (i ≡ n) ⊎ (i ≢ n) → with_bit n b others i ≡ all_bits i
          agree_there others agree i left (inl same) = subst (λ m. with_bit n b others m ≡ all_bits m) (sym same)
              (with_same n b others ∙ sym (with_same n b bits))
          agree_there others agree i left (inr other) =
              let parts = still all k i left in
              with_other n b others i other
              ∙ agree i (kept chosen k i parts.0 (sym (with_other n true chosen i other) ∙ parts.1))
              ∙ sym (with_other n b bits i other)

  pub taken_down : chosen n ≡ true → IsChoice (upto (suc n)) table chosen bits bit
      → IsChoice (upto n) (half (bits n)) (with_bit n false chosen) bits bit
  taken_down on is = record {
    among_arguments = λ k left. (let parts = still chosen n k left in
        let less = upto_below (suc n) k (is.among_arguments k parts.1) in
        let differs = parts.0 in
        below_upto n k (omega (arith, less, differs)));
    forces = half_unread n table half bit s.halves chosen bits (bits n)
        (forces_side n table half bit s.halves chosen bits on is.forces);
    minimal = λ k left forced. (let parts = still chosen n k left in is.minimal k parts.1
        (side_forces n table half bit s.halves (with_bit k false chosen) bits
        (with_other k false chosen n (λ e. parts.0 (sym e)) ∙ on)
        (fewer (half (bits n)) (with_bit k false (with_bit n false chosen)) (with_bit k false chosen) bits bit
        (λ i there. (let both_parts = still (with_bit n false chosen) k i there in
        kept chosen k i both_parts.0 (still chosen n i both_parts.1).1)) forced)));
  }

  pub taken_alone : chosen n ≡ true → IsChoice (upto (suc n)) table chosen bits bit
      → Forces (half (not (bits n))) (with_bit n false chosen) bits bit → ⊥
  taken_alone on is forced = is.minimal n on
      (both_forces n table half both bit s (with_bit n false chosen) bits (together (bits n) own forced))
    where
      own : Forces (half (bits n)) (with_bit n false chosen) bits bit
      own = half_unread n table half bit s.halves chosen bits (bits n)
          (forces_side n table half bit s.halves chosen bits on is.forces)

      together : (b : Bool) → Forces (half b) (with_bit n false chosen) bits bit
          → Forces (half (not b)) (with_bit n false chosen) bits bit → Forces both (with_bit n false chosen) bits bit
      together false zero one = halves_both n table half both bit s (with_bit n false chosen) bits zero one
      together true one zero = halves_both n table half both bit s (with_bit n false chosen) bits zero one
