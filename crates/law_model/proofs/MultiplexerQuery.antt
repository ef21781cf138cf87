-- The query of the multiplexer has the clauses that stand in specs/WorkedMultiplexer, and no other.
use Rattle.std.proofs.Common.{◌≡◌, ◌≢◌, ℕ, zero, suc, ◌<◌, ◌≤◌, lit≤, ◌==◌, ◌||◌, not, Bool, true, false, List, [], ◌∷◌, length, map, refl, sym, ap, ◌∙◌, arith, subst, inl, inr, ◌⊎◌, ⊎_elim, Contains}
use Rattle.std.specs.Prelude.{ℤ, pos, negsuc, nat_abs}
use Rattle.std.specs.List.{All, AllPairs}
use Rattle.std.specs.List.Sorted.{IsStrictlyIncreasing}
use Rattle.std.proofs.lemmas.Bool.{eqb-true, or_cases}
use Rattle.std.proofs.lemmas.Bool.Decides.{eqb_tells}
use Rattle.std.proofs.lemmas.List.Elements.{All-cons, All-nil}
use Rattle.std.proofs.lemmas.List.Kept.{AllPairs-cons}
use Rattle.design_cell.specs.declared.value.Value.TheVariants.{X}
use Rattle.design_cell.specs.Value.{bit_value}
use Rattle.design_circuit.specs.Rule.{rule, arguments}
use Rattle.sat_proof.specs.Log.{Fit}
use Rattle.law_model.specs.Places.{among}
use Rattle.law_model.specs.Assignment.{with_bit, for_every}
use Rattle.law_model.specs.Class.{classes, class_of}
use Rattle.law_model.specs.Cone.{is_carried, essentials, cones, in_cone, table}
use Rattle.law_model.specs.Query.{literal, Forces, IsChoice, IsClause, IsConeClause, IsQueryClause}
use Rattle.law_model.specs.WorkedMultiplexer.{mux, certain_data, mux_clauses, MuxQuery}
use Rattle.law_model.proofs.ChoiceNumbers.{split, above, rest_rises, clause_one}
use Rattle.law_model.proofs.WorkedMultiplexer.{mux_essentials, a_literal, not_a_literal, b_literal, not_b_literal, y_literal, denial_is, s_table, y_table, y_inside, y_free, mux_variables}

-- A choice for y takes bits of a and b.
taken : (chosen : ℕ → Bool) → ((k : ℕ) → chosen k ≡ true → among (essentials mux certain_data 6) k ≡ true) → (k : ℕ)
    → chosen k ≡ true → (k ≡ 4) ⊎ (k ≡ 5)
taken chosen inside k on = of k (subst (λ places. among places k ≡ true) mux_essentials (inside k on))
  where
    of : (k : ℕ) → among (4 ∷ 5 ∷ []) k ≡ true → (k ≡ 4) ⊎ (k ≡ 5)
    of k at = ⊎_elim (λ (e : (4 == k) ≡ true). inl (sym (eqb-true 4 k e)))
        (λ (at : among (5 ∷ []) k ≡ true). ⊎_elim (λ (e : (5 == k) ≡ true). inr (sym (eqb-true 5 k e)))
        (λ (e : false ≡ true). cc) (or_cases (5 == k) false at)) (or_cases (4 == k) (among (5 ∷ []) k) at)

off_on : {P : Type 0} → false ≡ true → P
off_on e = cc

same_bit : (a b : Bool) → bit_value a ≡ bit_value b → a ≡ b
same_bit false false e = refl
same_bit false true e = cc
same_bit true false e = cc
same_bit true true e = refl

or_true : (a : Bool) → a || true ≡ true
or_true false = refl
or_true true = refl

-- Bits that agree with a choice, by what they are at a and b.
agree_at : (chosen bits : ℕ → Bool) (x y : Bool) → ((k : ℕ) → chosen k ≡ true → (k ≡ 4) ⊎ (k ≡ 5))
    → (chosen 4 ≡ true → x ≡ bits 4) → (chosen 5 ≡ true → y ≡ bits 5) → (k : ℕ) → chosen k ≡ true
    → with_bit 4 x (with_bit 5 y bits) k ≡ bits k
agree_at chosen bits x y either a b k on =
    ⊎_elim (λ (e : k ≡ 4). subst (λ i. with_bit 4 x (with_bit 5 y bits) i ≡ bits i) (sym e)
    (a (subst (λ i. chosen i ≡ true) e on))) (λ (e : k ≡ 5).
    subst (λ i. with_bit 4 x (with_bit 5 y bits) i ≡ bits i) (sym e) (b (subst (λ i. chosen i ≡ true) e on)))
    (either k on)

forced : (chosen bits : ℕ → Bool) (bit x y : Bool) → ((k : ℕ) → chosen k ≡ true → (k ≡ 4) ⊎ (k ≡ 5))
    → Forces (table mux certain_data 6) chosen bits bit → (chosen 4 ≡ true → x ≡ bits 4)
    → (chosen 5 ≡ true → y ≡ bits 5) → (x || y) ≡ bit
forced chosen bits bit x y either forces a b =
    same_bit (x || y) bit (sym (y_table (with_bit 4 x (with_bit 5 y bits)))
    ∙ forces (with_bit 4 x (with_bit 5 y bits)) (agree_at chosen bits x y either a b))

-- A 1 at a forces y, and so does a 1 at b.
a_forces : (chosen bits : ℕ → Bool) → chosen 4 ≡ true → bits 4 ≡ true
    → Forces (table mux certain_data 6) chosen bits true
a_forces chosen bits on one others agree = y_table others ∙ ap (λ a. bit_value (a || others 5)) (agree 4 on ∙ one)

b_forces : (chosen bits : ℕ → Bool) → chosen 5 ≡ true → bits 5 ≡ true
    → Forces (table mux certain_data 6) chosen bits true
b_forces chosen bits on one others agree = y_table others ∙ ap (λ b. bit_value (others 4 || b)) (agree 5 on ∙ one)
    ∙ ap bit_value (or_true (others 4))

two_rise : (a b : ℕ) → a < b → IsStrictlyIncreasing (a ∷ b ∷ [])
two_rise a b less zero within = less
two_rise a b less (suc k) within = absurd (omega (arith, within))

-- The clause of a choice of a alone, and that of b alone.
a_clause : (chosen bits : ℕ → Bool) → chosen 4 ≡ true → ((k : ℕ) → chosen k ≡ true → k ≡ 4) → bits 4 ≡ true
    → IsClause (literal mux certain_data 6) 6 chosen bits true (negsuc 0 ∷ pos 2 ∷ [])
a_clause chosen bits on only one = record {
  ascends = two_rise 1 2 (omega arith);
  denies = λ k taken. subst (λ i. Contains (negsuc 0 ∷ pos 2 ∷ []) (literal mux certain_data 6 i (not (bits i))))
      (sym (only k taken)) (subst (Contains (negsuc 0 ∷ pos 2 ∷ [])) (sym here) (0, omega arith, refl));
  gives = subst (Contains (negsuc 0 ∷ pos 2 ∷ [])) (sym y_literal) (1, omega arith, refl);
  no_other = λ l at. ⊎_elim (λ (e : l ≡ negsuc 0). inr (4, on, e ∙ sym here))
      (λ (at : Contains (pos 2 ∷ []) l). ⊎_elim (λ (e : l ≡ pos 2). inl (e ∙ sym y_literal))
      (λ (at : Contains [] l). nowhere l at) (split (pos 2) l [] at)) (split (negsuc 0) l (pos 2 ∷ []) at);
}
  where
    here : literal mux certain_data 6 4 (not (bits 4)) ≡ negsuc 0
    here = ap (λ b. literal mux certain_data 6 4 (not b)) one ∙ not_a_literal

    nowhere : {P : Type 0} → (l : ℤ) → Contains [] l → P
    nowhere l at = absurd (let less = at.1 in omega (arith, less))

b_clause : (chosen bits : ℕ → Bool) → chosen 5 ≡ true → ((k : ℕ) → chosen k ≡ true → k ≡ 5) → bits 5 ≡ true
    → IsClause (literal mux certain_data 6) 6 chosen bits true (pos 1 ∷ pos 2 ∷ [])
b_clause chosen bits on only one = record {
  ascends = two_rise 1 2 (omega arith);
  denies = λ k taken. subst (λ i. Contains (pos 1 ∷ pos 2 ∷ []) (literal mux certain_data 6 i (not (bits i))))
      (sym (only k taken)) (subst (Contains (pos 1 ∷ pos 2 ∷ [])) (sym here) (0, omega arith, refl));
  gives = subst (Contains (pos 1 ∷ pos 2 ∷ [])) (sym y_literal) (1, omega arith, refl);
  no_other = λ l at. ⊎_elim (λ (e : l ≡ pos 1). inr (5, on, e ∙ sym here))
      (λ (at : Contains (pos 2 ∷ []) l). ⊎_elim (λ (e : l ≡ pos 2). inl (e ∙ sym y_literal))
      (λ (at : Contains [] l). nowhere l at) (split (pos 2) l [] at)) (split (pos 1) l (pos 2 ∷ []) at);
}
  where
    here : literal mux certain_data 6 5 (not (bits 5)) ≡ pos 1
    here = ap (λ b. literal mux certain_data 6 5 (not b)) one ∙ not_b_literal

    nowhere : {P : Type 0} → (l : ℤ) → Contains [] l → P
    nowhere l at = absurd (let less = at.1 in omega (arith, less))

none_left : (place k : ℕ) → with_bit place false (λ i. i == place) k ≡ true → ⊥
none_left place k = elim (eqb_tells k place) as (λ _. with_bit place false (λ i. i == place) k ≡ true → ⊥) [
  | inl p ↦ (λ on. off_on (sym (rw p.0 refl) ∙ on))
  | inr p ↦ (λ on. off_on (sym (rw p.0 refl) ∙ on))
]

-- Nothing is forced where nothing is chosen.
nothing_forced : (chosen bits : ℕ → Bool) → ((k : ℕ) → chosen k ≡ true → ⊥)
    → Forces (table mux certain_data 6) chosen bits true → ⊥
nothing_forced chosen bits none forces =
    off_on (forced chosen bits true false false (λ k on. absurd (none k on)) forces (λ on. absurd (none 4 on))
    (λ on. absurd (none 5 on)))

one_choice : (place : ℕ) → among (essentials mux certain_data 6) place ≡ true
    → Forces (table mux certain_data 6) (λ k. k == place) (λ k. true) true
    → IsChoice (essentials mux certain_data 6) (table mux certain_data 6) (λ k. k == place) (λ k. true) true
one_choice place inside forces = record {
  among_arguments = λ k on. subst (λ i. among (essentials mux certain_data 6) i ≡ true) (sym (eqb-true k place on))
      inside;
  forces = forces;
  minimal = λ k on forced. nothing_forced (with_bit k false (λ i. i == place)) (λ i. true)
      (λ i left. none_left place i (subst (λ at. with_bit at false (λ i. i == place) i ≡ true) (eqb-true k place on)
      left)) forced;
}

a_among : among (essentials mux certain_data 6) 4 ≡ true
a_among = ap (λ places. among places 4) mux_essentials

b_among : among (essentials mux certain_data 6) 5 ≡ true
b_among = ap (λ places. among places 5) mux_essentials

a_is : IsConeClause mux certain_data 6 (negsuc 0 ∷ pos 2 ∷ [])
a_is = record {
  place = 6;
  bit = true;
  chosen = λ k. k == 4;
  bits = λ k. true;
  inside = y_inside;
  free = y_free;
  choice = one_choice 4 a_among (a_forces (λ k. k == 4) (λ k. true) refl refl);
  is_clause = a_clause (λ k. k == 4) (λ k. true) refl (λ k on. eqb-true k 4 on) refl;
}

b_is : IsConeClause mux certain_data 6 (pos 1 ∷ pos 2 ∷ [])
b_is = record {
  place = 6;
  bit = true;
  chosen = λ k. k == 5;
  bits = λ k. true;
  inside = y_inside;
  free = y_free;
  choice = one_choice 5 b_among (b_forces (λ k. k == 5) (λ k. true) refl refl);
  is_clause = b_clause (λ k. k == 5) (λ k. true) refl (λ k on. eqb-true k 5 on) refl;
}

-- A clause that ascends by variable has one literal of a variable.
one_of_variable : (l m : ℤ) (clause : List ℤ) → IsStrictlyIncreasing (map nat_abs clause) → Contains clause l
    → Contains clause m → nat_abs l ≡ nat_abs m → l ≡ m
one_of_variable l m [] rises at_l at_m same = absurd (let less = at_l.1 in omega (arith, less))
one_of_variable l m (x ∷ xs) rises at_l at_m same =
    ⊎_elim (λ (e : l ≡ x). ⊎_elim (λ (d : m ≡ x). e ∙ sym d)
    (λ (deep : Contains xs m). (let up = above x m xs rises deep in let one = ap nat_abs
    e in absurd (omega (arith, up, one, same)))) (split x m xs at_m))
    (λ (deep : Contains xs l). ⊎_elim (λ (d : m ≡ x).
    (let up = above x l xs rises deep in let one = ap nat_abs d in absurd (omega (arith, up, one, same))))
    (λ (other : Contains xs m). one_of_variable l m xs (rest_rises x xs rises) deep other same) (split x m xs at_m))
    (split x l xs at_l)

-- Any clause of y is one of the two.
y_clause : (chosen bits : ℕ → Bool) (bit : Bool) (clause : List ℤ)
    → IsChoice (essentials mux certain_data 6) (table mux certain_data 6) chosen bits bit
    → IsClause (literal mux certain_data 6) 6 chosen bits bit clause → (a b u v : Bool) → chosen 4 ≡ a → chosen 5 ≡ b
    → bits 4 ≡ u → bits 5 ≡ v → Contains mux_clauses clause
y_clause chosen bits bit clause choice is = by
  where
    either : (k : ℕ) → chosen k ≡ true → (k ≡ 4) ⊎ (k ≡ 5)
    either = taken chosen choice.among_arguments

    off : {P : Type 0} → (k : ℕ) → chosen k ≡ false → chosen k ≡ true → P
    off k unset set = off_on (sym unset ∙ set)

    a_only : chosen 5 ≡ false → (k : ℕ) → chosen k ≡ true → k ≡ 4
    a_only none k on = ⊎_elim (λ (e : k ≡ 4). e) (λ (e : k ≡ 5). off k (ap chosen e ∙ none) on) (either k on)

    b_only : chosen 4 ≡ false → (k : ℕ) → chosen k ≡ true → k ≡ 5
    b_only none k on = ⊎_elim (λ (e : k ≡ 4). off k (ap chosen e ∙ none) on) (λ (e : k ≡ 5). e) (either k on)

    no_bit : {P : Type 0} → false ≡ bit → true ≡ bit → P
    no_bit off_is on_is = off_on (off_is ∙ sym on_is)

    at_bit : true ≡ bit → IsClause (literal mux certain_data 6) 6 chosen bits true clause
    at_bit one = subst (λ b. IsClause (literal mux certain_data 6) 6 chosen bits b clause) (sym one) is

    first : chosen 4 ≡ true → chosen 5 ≡ false → bits 4 ≡ true → true ≡ bit → Contains mux_clauses clause
    first on none one bit_is = subst (Contains mux_clauses)
        (clause_one (literal mux certain_data 6) 6 chosen bits true (negsuc 0 ∷ pos 2 ∷ []) clause
        (a_clause chosen bits on (a_only none) one) (at_bit bit_is)) (0, omega arith, refl)

    second : chosen 4 ≡ false → chosen 5 ≡ true → bits 5 ≡ true → true ≡ bit → Contains mux_clauses clause
    second none on one bit_is = subst (Contains mux_clauses)
        (clause_one (literal mux certain_data 6) 6 chosen bits true (pos 1 ∷ pos 2 ∷ []) clause
        (b_clause chosen bits on (b_only none) one) (at_bit bit_is)) (1, omega arith, refl)

    value : (x y : Bool) → (chosen 4 ≡ true → x ≡ bits 4) → (chosen 5 ≡ true → y ≡ bits 5) → (x || y) ≡ bit
    value x y a b = forced chosen bits bit x y either choice.forces a b

    without_a : chosen 4 ≡ true → chosen 5 ≡ true → bits 5 ≡ true → true ≡ bit → ⊥
    without_a on_a on_b one bit_is = choice.minimal 4 on_a
        (subst (Forces (table mux certain_data 6) (with_bit 4 false chosen) bits) bit_is
        (b_forces (with_bit 4 false chosen) bits on_b one))

    without_b : chosen 4 ≡ true → chosen 5 ≡ true → bits 4 ≡ true → true ≡ bit → ⊥
    without_b on_a on_b one bit_is = choice.minimal 5 on_b
        (subst (Forces (table mux certain_data 6) (with_bit 5 false chosen) bits) bit_is
        (a_forces (with_bit 5 false chosen) bits on_a one))

    tautology : chosen 4 ≡ true → chosen 5 ≡ true → bits 4 ≡ false → bits 5 ≡ false → ⊥
    tautology on_a on_b zero_a zero_b =
        let a : Contains clause (pos 1) = subst (Contains clause)
        (ap (λ b. literal mux certain_data 6 4 (not b)) zero_a ∙ a_literal) (is.denies 4 on_a) in
        let b : Contains clause (negsuc 0) = subst (Contains clause)
        (ap (λ b. literal mux certain_data 6 5 (not b)) zero_b ∙ b_literal) (is.denies 5 on_b) in
        let same : pos 1 ≡ negsuc 0 = one_of_variable (pos 1) (negsuc 0) clause is.ascends a b refl in cc

    by : (a b u v : Bool) → chosen 4 ≡ a → chosen 5 ≡ b → bits 4 ≡ u → bits 5 ≡ v → Contains mux_clauses clause
    by false false u v at_a at_b is_u is_v = no_bit (value false false (off 4 at_a) (off 5 at_b))
        (value true true (off 4 at_a) (off 5 at_b))
    by true false false v at_a at_b is_u is_v = no_bit (value false false (λ on. sym is_u) (off 5 at_b))
        (value false true (λ on. sym is_u) (off 5 at_b))
    by true false true v at_a at_b is_u is_v = first at_a at_b is_u (value true false (λ on. sym is_u) (off 5 at_b))
    by false true u false at_a at_b is_u is_v = no_bit (value false false (off 4 at_a) (λ on. sym is_v))
        (value true false (off 4 at_a) (λ on. sym is_v))
    by false true u true at_a at_b is_u is_v = second at_a at_b is_v (value false true (off 4 at_a) (λ on. sym is_v))
    by true true false false at_a at_b is_u is_v = absurd (tautology at_a at_b is_u is_v)
    by true true false true at_a at_b is_u is_v =
        absurd (without_a at_a at_b is_v (value false true (λ on. sym is_u) (λ on. sym is_v)))
    by true true true v at_a at_b is_u is_v =
        absurd (without_b at_a at_b is_u (value true (bits 5) (λ on. sym is_u) (λ on. refl)))

-- A place of the cone is one of the five.
cone_cases : (place : ℕ) → in_cone mux certain_data 6 place ≡ true → (P : ℕ → Type 0) → P 2 → P 3 → P 4 → P 5 → P 6
    → P place
unfolding rule arguments for_every classes essentials cones
cone_cases place inside P p2 p3 p4 p5 p6 = elim (eqb_tells 6 place) as (λ _. P place) [
  | inl e6 ↦ subst P e6.1 p6
  | inr n6 ↦ elim (eqb_tells 5 place) as (λ _. P place) [
    | inl e5 ↦ subst P e5.1 p5
    | inr n5 ↦ elim (eqb_tells 4 place) as (λ _. P place) [
      | inl e4 ↦ subst P e4.1 p4
      | inr n4 ↦ elim (eqb_tells 3 place) as (λ _. P place) [
        | inl e3 ↦ subst P e3.1 p3
        | inr n3 ↦ elim (eqb_tells 2 place) as (λ _. P place) [
          | inl e2 ↦ subst P e2.1 p2
          | inr n2 ↦ (let e : false ≡ true = rw (n2.0, n3.0, n4.0, n5.0, n6.0) at inside in off_on e)
        ]
      ]
    ]
  ]
]

carried_at : (place : ℕ) → is_carried (class_of mux certain_data place) ≡ true → (P : Type 0)
    → is_carried (class_of mux certain_data place) ≡ false → P
carried_at place carried P free = off_on (sym free ∙ carried)

ns_carried : is_carried (class_of mux certain_data 3) ≡ true
unfolding rule arguments for_every classes
ns_carried = refl

a_carried : is_carried (class_of mux certain_data 4) ≡ true
unfolding rule arguments for_every classes
a_carried = refl

b_carried : is_carried (class_of mux certain_data 5) ≡ true
unfolding rule arguments for_every classes
b_carried = refl

open_bit : {P : Type 0} → (bit : Bool) → X ≡ bit_value bit → P
open_bit false e = cc
open_bit true e = cc

-- What makes a clause at a place.
abbrev Makes : List ℤ → ℕ → Type 0
Makes clause place = (bit : Bool) (chosen bits : ℕ → Bool) → is_carried (class_of mux certain_data place) ≡ false
    → IsChoice (essentials mux certain_data place) (table mux certain_data place) chosen bits bit
    → IsClause (literal mux certain_data 6) place chosen bits bit clause → Contains mux_clauses clause

any_clause : (clause : List ℤ) (place : ℕ) → in_cone mux certain_data 6 place ≡ true → Makes clause place
any_clause clause place inside = cone_cases place inside (Makes clause)
    (λ bit chosen bits free choice is. open_bit bit (sym (s_table bits) ∙ choice.forces bits (λ k on. refl)))
    (λ bit chosen bits free choice is. carried_at 3 ns_carried (Contains mux_clauses clause) free)
    (λ bit chosen bits free choice is. carried_at 4 a_carried (Contains mux_clauses clause) free)
    (λ bit chosen bits free choice is. carried_at 5 b_carried (Contains mux_clauses clause) free)
    (λ bit chosen bits free choice is. y_clause chosen bits bit clause choice is (chosen 4) (chosen 5) (bits 4) (bits 5)
    refl refl refl refl)

split_clause : (x l : List ℤ) (xs : List (List ℤ)) → Contains (x ∷ xs) l → (l ≡ x) ⊎ Contains xs l
split_clause x l xs (zero, less, is) = inl (sym is)
split_clause x l xs (suc k, less, is) = inr (k, omega arith, is)

each_clause : (clause : List ℤ) → Contains mux_clauses clause → IsQueryClause mux certain_data 6 clause
each_clause clause at =
    ⊎_elim (λ (e : clause ≡ negsuc 0 ∷ pos 2 ∷ []). inl (subst (IsConeClause mux certain_data 6) (sym e) a_is))
    (λ (at : Contains ((pos 1 ∷ pos 2 ∷ []) ∷ (negsuc 1 ∷ []) ∷ []) clause). ⊎_elim
    (λ (e : clause ≡ pos 1 ∷ pos 2 ∷ []). inl (subst (IsConeClause mux certain_data 6) (sym e) b_is))
    (λ (at : Contains ((negsuc 1 ∷ []) ∷ []) clause). ⊎_elim
    (λ (e : clause ≡ negsuc 1 ∷ []). inr (e ∙ sym denial_is))
    (λ (at : Contains [] clause). absurd (let less = at.1 in omega (arith, less)))
    (split_clause (negsuc 1 ∷ []) clause [] at))
    (split_clause (pos 1 ∷ pos 2 ∷ []) clause ((negsuc 1 ∷ []) ∷ []) at))
    (split_clause (negsuc 0 ∷ pos 2 ∷ []) clause ((pos 1 ∷ pos 2 ∷ []) ∷ (negsuc 1 ∷ []) ∷ []) at)

all_clauses : (clause : List ℤ) → IsQueryClause mux certain_data 6 clause → Contains mux_clauses clause
all_clauses clause (inl is) = any_clause clause is.place is.inside is.bit is.chosen is.bits is.free is.choice
    is.is_clause
all_clauses clause (inr is) = subst (Contains mux_clauses) (sym (is ∙ denial_is)) (2, omega arith, refl)

-- The literals are those of the two variables, and no two clauses are equal.
few_variables : Fit 2 mux_clauses
few_variables = All-cons Low (negsuc 0 ∷ pos 2 ∷ []) ((pos 1 ∷ pos 2 ∷ []) ∷ (negsuc 1 ∷ []) ∷ [])
    (two (negsuc 0) (pos 2) (omega arith) (omega arith))
    (All-cons Low (pos 1 ∷ pos 2 ∷ []) ((negsuc 1 ∷ []) ∷ [])
    (two (pos 1) (pos 2) (omega arith) (omega arith))
    (All-cons Low (negsuc 1 ∷ []) [] (All-cons Small (negsuc 1) [] (omega arith) (All-nil Small)) (All-nil Low)))
  where
    Small : ℤ → Type 0
    Small l = nat_abs l ≤ 2

    Low : List ℤ → Type 0
    Low clause = All Small clause

    two : (l m : ℤ) → Small l → Small m → All Small (l ∷ m ∷ [])
    two l m a b = All-cons Small l (m ∷ []) a (All-cons Small m [] b (All-nil Small))

each_apart : AllPairs (λ (a : List ℤ) b. a ≢ b) mux_clauses
each_apart = AllPairs-cons Apart (negsuc 0 ∷ pos 2 ∷ []) ((pos 1 ∷ pos 2 ∷ []) ∷ (negsuc 1 ∷ []) ∷ [])
    (All-cons (Apart (negsuc 0 ∷ pos 2 ∷ [])) (pos 1 ∷ pos 2 ∷ []) ((negsuc 1 ∷ []) ∷ []) (λ e. cc)
    (All-cons (Apart (negsuc 0 ∷ pos 2 ∷ [])) (negsuc 1 ∷ []) [] (λ e. cc) (All-nil (Apart (negsuc 0 ∷ pos 2 ∷ [])))))
    (AllPairs-cons Apart (pos 1 ∷ pos 2 ∷ []) ((negsuc 1 ∷ []) ∷ [])
    (All-cons (Apart (pos 1 ∷ pos 2 ∷ [])) (negsuc 1 ∷ []) [] (λ e. cc) (All-nil (Apart (pos 1 ∷ pos 2 ∷ []))))
    (AllPairs-cons Apart (negsuc 1 ∷ []) [] (All-nil (Apart (negsuc 1 ∷ []))) (λ i j d less within. absurd (omega arith))))
  where
    Apart : List ℤ → List ℤ → Type 0
    Apart a b = a ≢ b

pub mux_query_is : MuxQuery
mux_query_is = (
  record { vars = 2; clauses = mux_clauses; few = lit≤ tt; fit = few_variables },
  refl,
  refl,
  record {
    vars = sym (ap length mux_variables);
    each = each_clause;
    all = all_clauses;
    once = each_apart;
  },
)
