-- Choices by numbers, and clauses as lists: what code needs to list the clauses of a cone.
use Rattle.std.proofs.Common.{◌≡◌, ℕ, zero, suc, ◌+◌, ◌<◌, ◌^◌, ◌==◌, ◌||◌, ◌/◌, not, Bool, true, false, List, [], ◌∷◌, map, length, refl, sym, ap, ◌∙◌, arith, add-one, subst, inl, inr, ◌⊎◌, ⊎_elim, Contains, slice_index_or}
use Rattle.std.specs.Prelude.{ℤ, nat_abs}
use Rattle.std.specs.List.Sorted.{IsStrictlyIncreasing}
use Rattle.std.proofs.Math.Path.{fun_ext}
use Rattle.std.proofs.lemmas.Bool.{cases_Bool, ne_eqb, eqb-false}
use Rattle.design_cell.specs.declared.value.Value.{Value}
use Rattle.design_cell.specs.Value.{bit_value}
use Rattle.design_circuit.proofs.Rules.{AgreeOn}
use Rattle.law_model.specs.Places.{among}
use Rattle.law_model.specs.Query.{Forces, IsChoice, IsClause}
use Rattle.law_model.specs.Mask.{masked, mask_of}
use Rattle.law_model.proofs.AssignmentNumbers.{mask_small, masked_agrees}
use Rattle.law_model.proofs.MinimalChoices.{still}
use Rattle.law_model.proofs.ConeModels.{rises_far}
use Rattle.law_model.proofs.PlacesWhere.{all_among}

or_parts : (a b : Bool) → a || b ≡ false → (a ≡ false) × (b ≡ false)
or_parts false b off = (refl, off)
or_parts true b off = cc

masked_off : (places : List ℕ) (number k : ℕ) → among places k ≡ false → masked places number k ≡ false
masked_off [] number k off = refl
masked_off (p ∷ ps) number k off =
    let parts = or_parts (p == k) (among ps k) off in
    rw (ne_eqb k p (λ e. eqb-false p k parts.0 (sym e))) (masked_off ps (number / 2) k parts.1)

-- A choice of arguments is the bits of a number.
pub chosen_number : (arguments : List ℕ) (chosen : ℕ → Bool) → ((k : ℕ) → chosen k ≡ true → among arguments k ≡ true)
    → masked arguments (mask_of arguments chosen) ≡ chosen
chosen_number arguments chosen inside = fun_ext each
  where
    off : (k : ℕ) → among arguments k ≡ false → chosen k ≡ false
    off k none = ⊎_elim (λ (h : chosen k ≡ true). (let e : true ≡ false = sym (inside k h) ∙ none in cc))
        (λ (h : chosen k ≡ false). h) (cases_Bool (chosen k))

    each : (k : ℕ) → masked arguments (mask_of arguments chosen) k ≡ chosen k
    each k = ⊎_elim (λ (h : among arguments k ≡ true). all_among
        (λ i. masked arguments (mask_of arguments chosen) i ≡ chosen i) arguments k (masked_agrees arguments chosen) h)
        (λ (h : among arguments k ≡ false). masked_off arguments (mask_of arguments chosen) k h ∙ sym (off k h))
        (cases_Bool (among arguments k))

-- What a choice forces, by numbers.
pub forces_numbers : (arguments : List ℕ) (table : (ℕ → Bool) → Value) (chosen bits : ℕ → Bool) (bit : Bool)
    → ((f g : ℕ → Bool) → AgreeOn f g arguments → table f ≡ table g)
    → ((k : ℕ) → chosen k ≡ true → among arguments k ≡ true)
    → ((number : ℕ) → number < 2 ^ length arguments → ((k : ℕ) → chosen k ≡ true → masked arguments number k ≡ bits k)
    → table (masked arguments number) ≡ bit_value bit) → Forces table chosen bits bit
forces_numbers arguments table chosen bits bit reads inside each others agree =
    let number = mask_of arguments others in
    let same = masked_agrees arguments others in
    sym (reads (masked arguments number) others same)
    ∙ each number (mask_small arguments others)
    (λ k taken. all_among (λ i. masked arguments number i ≡ others i) arguments k same (inside k taken)
    ∙ agree k taken)

-- A choice and its clause read the bits of what is chosen alone.
pub choice_bits : (arguments : List ℕ) (table : (ℕ → Bool) → Value) (chosen bits other : ℕ → Bool) (bit : Bool)
    → ((k : ℕ) → chosen k ≡ true → bits k ≡ other k) → IsChoice arguments table chosen bits bit
    → IsChoice arguments table chosen other bit
choice_bits arguments table chosen bits other bit same is = record {
  among_arguments = is.among_arguments;
  forces = λ others agree. is.forces others (λ k taken. agree k taken ∙ sym (same k taken));
  minimal = λ k taken forced. is.minimal k taken
      (λ others agree. forced others (λ i kept. agree i kept ∙ same i (still chosen k i kept)));
}

pub clause_bits : (says : ℕ → Bool → ℤ) (place : ℕ) (chosen bits other : ℕ → Bool) (bit : Bool) (clause : List ℤ)
    → ((k : ℕ) → chosen k ≡ true → bits k ≡ other k) → IsClause says place chosen bits bit clause
    → IsClause says place chosen other bit clause
clause_bits says place chosen bits other bit clause same is = record {
  ascends = is.ascends;
  denies = λ k taken. subst (λ b. Contains clause (says k (not b))) (same k taken) (is.denies k taken);
  gives = is.gives;
  no_other = λ l at. ⊎_elim (λ (e : l ≡ says place bit). inl e)
      (λ (e : (k : ℕ) × (chosen k ≡ true) × (l ≡ says k (not (bits k)))). inr
      (e.0, e.1, e.2 ∙ ap (λ b. says e.0 (not b)) (same e.0 e.1))) (is.no_other l at);
}

pub split : (x l : ℤ) (xs : List ℤ) → Contains (x ∷ xs) l → (l ≡ x) ⊎ Contains xs l
split x l xs (zero, less, is) = inl (sym is)
split x l xs (suc k, less, is) = inr (k, omega arith, is)

further_on : (x l : ℤ) (xs : List ℤ) → Contains xs l → Contains (x ∷ xs) l
further_on x l xs at = (suc at.0, (let less = at.1 in omega (arith, less)), at.2)

abs_at : (xs : List ℤ) (k : ℕ) (d : ℤ) → k < length xs
    → slice_index_or (map nat_abs xs) k 0 ≡ nat_abs (slice_index_or xs k d)
abs_at [] k d less = absurd (omega arith)
abs_at (x ∷ xs) zero d less = refl
abs_at (x ∷ xs) (suc k) d less = abs_at xs k d (omega arith)

abs_length : (xs : List ℤ) → length (map nat_abs xs) ≡ length xs
abs_length [] = refl
abs_length (x ∷ xs) = ap suc (abs_length xs)

pub above : (x l : ℤ) (xs : List ℤ) → IsStrictlyIncreasing (map nat_abs (x ∷ xs)) → Contains xs l
    → nat_abs x < nat_abs l
above x l xs rises at =
    let long = abs_length xs in
    let less = at.1 in
    let far = rises_far (map nat_abs (x ∷ xs)) at.0 rises (omega (arith, long, less)) in
    let same : slice_index_or (map nat_abs (x ∷ xs)) (at.0 + 1) 0 ≡ nat_abs l =
    ap (λ i. slice_index_or (map nat_abs (x ∷ xs)) i 0) (add-one at.0) ∙ abs_at xs at.0 l at.1 ∙ ap nat_abs at.2 in
    omega (arith, far, same)

pub rest_rises : (x : ℤ) (xs : List ℤ) → IsStrictlyIncreasing (map nat_abs (x ∷ xs))
    → IsStrictlyIncreasing (map nat_abs xs)
rest_rises x xs rises k less =
    let same : suc k + 1 ≡ suc (k + 1) = omega arith in
    subst (λ i. slice_index_or (map nat_abs (x ∷ xs)) (suc k) 0 < slice_index_or (map nat_abs (x ∷ xs)) i 0) same
    (rises (suc k) (omega arith))

-- Lists that ascend by variable and have the same literals are equal.
one_list : (xs ys : List ℤ) → IsStrictlyIncreasing (map nat_abs xs) → IsStrictlyIncreasing (map nat_abs ys)
    → ((l : ℤ) → Contains xs l → Contains ys l) → ((l : ℤ) → Contains ys l → Contains xs l) → xs ≡ ys
one_list [] [] rise_x rise_y there back = refl
one_list [] (y ∷ ys) rise_x rise_y there back =
    (let at = back y (0, omega arith, refl) in absurd (let less = at.1 in omega (arith, less)))
one_list (x ∷ xs) [] rise_x rise_y there back =
    (let at = there x (0, omega arith, refl) in absurd (let less = at.1 in omega (arith, less)))
one_list (x ∷ xs) (y ∷ ys) rise_x rise_y there back =
    ap (λ z. z ∷ xs) heads ∙ ap (λ zs. y ∷ zs)
    (one_list xs ys (rest_rises x xs rise_x) (rest_rises y ys rise_y) (λ l at. tail_there l at)
    (λ l at. tail_back l at))
  where
    heads : x ≡ y
    heads = ⊎_elim (λ (e : x ≡ y). e) (λ (at : Contains ys x). ⊎_elim (λ (e : y ≡ x). sym e)
        (λ (back_at : Contains xs y). (let up = above y x ys rise_y at in let down = above x y xs rise_x
        back_at in absurd (omega (arith, up, down)))) (split x y xs (back y (0, omega arith, refl))))
        (split y x ys (there x (0, omega arith, refl)))

    tail_there : (l : ℤ) → Contains xs l → Contains ys l
    tail_there l at = ⊎_elim (λ (e : l ≡ y). (let up = above x l xs rise_x at in let same = ap nat_abs
        (e ∙ sym heads) in absurd (omega (arith, up, same)))) (λ (h : Contains ys l). h)
        (split y l ys (there l (further_on x l xs at)))

    tail_back : (l : ℤ) → Contains ys l → Contains xs l
    tail_back l at = ⊎_elim (λ (e : l ≡ x). (let up = above y l ys rise_y at in let same = ap nat_abs
        (e ∙ heads) in absurd (omega (arith, up, same)))) (λ (h : Contains xs l). h)
        (split x l xs (back l (further_on y l ys at)))

clause_within : (says : ℕ → Bool → ℤ) (place : ℕ) (chosen bits : ℕ → Bool) (bit : Bool) (a b : List ℤ)
    → IsClause says place chosen bits bit a → IsClause says place chosen bits bit b → (l : ℤ) → Contains a l
    → Contains b l
clause_within says place chosen bits bit a b is_a is_b l at =
    ⊎_elim (λ (e : l ≡ says place bit). subst (Contains b) (sym e) is_b.gives)
    (λ (e : (k : ℕ) × (chosen k ≡ true) × (l ≡ says k (not (bits k)))). subst (Contains b) (sym e.2)
    (is_b.denies e.0 e.1)) (is_a.no_other l at)

-- A choice has at most one clause.
pub clause_one : (says : ℕ → Bool → ℤ) (place : ℕ) (chosen bits : ℕ → Bool) (bit : Bool) (a b : List ℤ)
    → IsClause says place chosen bits bit a → IsClause says place chosen bits bit b → a ≡ b
clause_one says place chosen bits bit a b is_a is_b =
    one_list a b is_a.ascends is_b.ascends (clause_within says place chosen bits bit a b is_a is_b)
    (clause_within says place chosen bits bit b a is_b is_a)
