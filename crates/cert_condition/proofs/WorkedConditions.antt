-- The conditions worked by hand.
use Rattle.std.proofs.Common.{◌≡◌, ℕ, ◌==◌, ◌||◌, ◌⊎◌, inl, inr, Bool, true, false, [], ◌∷◌, refl, sym, ap, ◌∙◌, arith, subst, ⊎_elim}
use Rattle.design_cell.specs.declared.value.Value.TheVariants.{Zero, One, X}
use Rattle.std.proofs.lemmas.Bool.Decides.{eqb_tells}
use Rattle.design_cell.specs.Gate.{gate_of}
use Rattle.design_cell.specs.declared.gate.Gate.TheVariants.{Or, Xor}
use Rattle.design_cell.specs.Value.{bit_value}
use Rattle.design_circuit.specs.Rule.{arguments, rule}
use Rattle.law_model.specs.Assignment.{for_every}
use Rattle.law_model.specs.Class.{class_of, classes, flipped}
use Rattle.law_model.specs.Cone.{cones, essentials, in_cone, is_carried}
use Rattle.law_model.specs.Root.{root_of, roots}
use Rattle.cert_condition.specs.TurnQuery.{turn_literal, turn_variables}
use Rattle.cert_condition.specs.WorkedConditions.{DroppedHolds, DroppedParts, NeededHolds, NeededNeeds, NeededParts, dropped, dropped_certain, needed, needed_certain}

pub needed_parts : NeededParts
unfolding rule arguments for_every classes essentials cones roots turn_variables turn_literal
needed_parts = record {
  cone_is = refl;
  boundary_is = refl;
  certain_is = refl;
  variables_are = refl;
  a_is = refl;
  b_is = refl;
  c_is = refl;
  y_is = refl;
}

pub dropped_parts : DroppedParts
unfolding rule arguments for_every classes essentials cones roots turn_variables turn_literal
dropped_parts = record {
  cone_is = refl;
  boundary_is = refl;
  certain_is = refl;
  variables_are = refl;
  b_is = refl;
}

-- y of the first is the exclusive or of a, b and c, y of the second their disjunction.
needed_rule : (bits : ℕ → Bool) → rule needed needed_certain bits 3
    ≡ gate_of Xor (bit_value (bits 0) ∷ bit_value (bits 2) ∷ bit_value (bits 1) ∷ [])
unfolding rule
needed_rule bits = refl

dropped_rule : (bits : ℕ → Bool) → rule dropped dropped_certain bits 3
    ≡ gate_of Or (bit_value (bits 0) ∷ bit_value (bits 2) ∷ bit_value (bits 1) ∷ [])
unfolding rule
dropped_rule bits = refl

twice : (a : Bool) → gate_of Xor (bit_value a ∷ bit_value a ∷ bit_value false ∷ []) ≡ bit_value false
twice false = refl
twice true = refl

either : (a c : Bool) → gate_of Or (bit_value a ∷ bit_value (flipped true a) ∷ bit_value c ∷ []) ≡ bit_value true
either false false = refl
either false true = refl
either true false = refl
either true true = refl

zero_bit : (x : Bool) → Zero ≡ bit_value x → x ≡ false
zero_bit false e = refl
zero_bit true e = cc

pub needed_holds : NeededHolds
unfolding arguments rule for_every classes essentials cones roots
needed_holds = record {
  places = λ k at. at;
  holds = λ bits obeys. obeys.ruled 3 false refl refl
      (needed_rule bits
      ∙ ap (λ b. gate_of Xor (bit_value (bits 0) ∷ bit_value b ∷ bit_value (bits 1) ∷ [])) (obeys.carried 2 refl refl)
      ∙ ap (λ c. gate_of Xor (bit_value (bits 0) ∷ bit_value (bits 0) ∷ bit_value c ∷ []))
      (zero_bit (bits 1) (obeys.given 1 refl)) ∙ twice (bits 0));
}

pub dropped_holds : DroppedHolds
unfolding arguments rule for_every classes essentials cones roots
dropped_holds = record {
  places = λ k at. cc;
  holds = λ bits obeys. obeys.ruled 3 true refl refl
      (dropped_rule bits
      ∙ ap (λ b. gate_of Or (bit_value (bits 0) ∷ bit_value b ∷ bit_value (bits 1) ∷ [])) (obeys.carried 2 refl refl)
      ∙ either (bits 0) (bits 1));
}

-- A choice that gives y of the first 1 without c: only c and y have 1.
apart : ℕ → Bool
apart k = (k == 1) || (k == 3)

inside_three : (k : ℕ) → in_cone needed needed_certain 3 k ≡ true → (k ≡ 0) ⊎ ((k ≡ 2) ⊎ (k ≡ 3))
unfolding arguments rule for_every classes essentials cones
inside_three k inside = elim (eqb_tells k 0) as (λ _. (k ≡ 0) ⊎ ((k ≡ 2) ⊎ (k ≡ 3))) [
  | inl p ↦ inl p.1
  | inr p ↦ elim (eqb_tells k 2) as (λ _. (k ≡ 0) ⊎ ((k ≡ 2) ⊎ (k ≡ 3))) [
    | inl q ↦ inr (inl q.1)
    | inr q ↦ inr (inr (last k p.1 q.1 inside))
  ]
]
  where
    last : (k : ℕ) → (k ≡ 0 → ⊥) → (k ≡ 2 → ⊥)
        → (3 == k) || (((0 == k) || false) || (((2 == k) || (((0 == k) || false) || false)) || false)) ≡ true → k ≡ 3
    last k a b h = grind arith

x_no_bit : (bit : Bool) → X ≡ bit_value bit → ⊥
x_no_bit false e = cc
x_no_bit true e = cc

one_bit : (bit : Bool) → One ≡ bit_value bit → true ≡ bit
one_bit false e = cc
one_bit true e = refl

abbrev CarriedAt : ℕ → Type 0
CarriedAt k = is_carried (class_of needed needed_certain k) ≡ true
    → apart k ≡ flipped (root_of needed needed_certain k).inverted (apart (root_of needed needed_certain k).place)

abbrev RuledAt : ℕ → Type 0
RuledAt k = (bit : Bool) → is_carried (class_of needed needed_certain k) ≡ false
    → rule needed needed_certain apart k ≡ bit_value bit → apart k ≡ bit

apart_carried : (k : ℕ) → in_cone needed needed_certain 3 k ≡ true → CarriedAt k
unfolding arguments rule for_every classes essentials cones roots apart
apart_carried k inside =
    ⊎_elim (λ (e : k ≡ 0). subst CarriedAt (sym e) (λ carried. cc))
    (λ (r : (k ≡ 2) ⊎ (k ≡ 3)). ⊎_elim (λ (e : k ≡ 2). subst CarriedAt (sym e) (λ carried. refl))
    (λ (e : k ≡ 3). subst CarriedAt (sym e) (λ carried. cc)) r) (inside_three k inside)

apart_ruled : (k : ℕ) → in_cone needed needed_certain 3 k ≡ true → RuledAt k
unfolding arguments rule for_every classes essentials cones roots apart
apart_ruled k inside =
    ⊎_elim (λ (e : k ≡ 0). subst RuledAt (sym e) (λ bit free gives. absurd (x_no_bit bit gives)))
    (λ (r : (k ≡ 2) ⊎ (k ≡ 3)). ⊎_elim (λ (e : k ≡ 2). subst RuledAt (sym e) (λ bit free gives. cc))
    (λ (e : k ≡ 3). subst RuledAt (sym e) (λ bit free gives. one_bit bit gives)) r) (inside_three k inside)

pub needed_needs : NeededNeeds
unfolding apart
needed_needs condition =
    let e : true ≡ false = condition.holds apart (record {
      given = λ k at. cc;
      carried = λ k inside. apart_carried k inside;
      ruled = λ k bit inside. apart_ruled k inside bit;
    }) in
    cc
