-- A rule reads its essential arguments alone.
use Rattle.std.proofs.Common.{◌≡◌, ℕ, ◌<◌, not, Bool, true, false, List, [], ◌∷◌, refl, sym, ap, ◌∙◌, inl, inr, subst, ◌⊎◌, ⊎_elim}
use Rattle.std.specs.List.{AllByRecursion}
use Rattle.std.proofs.Math.Path.{fun_ext}
use Rattle.std.proofs.lemmas.Bool.{and_cases, cases_Bool, not-false}
use Rattle.std.proofs.lemmas.Bool.Decides.{eqb_tells}
use Rattle.design_cell.specs.declared.value.Value.{Value}
use Rattle.design_cell.specs.declared.value.Value.TheVariants.{Zero, One, X, Z}
use Rattle.design_cell.specs.Value.{IsKnown, is_unknown}
use Rattle.design_circuit.specs.Job.{Job, places_of}
use Rattle.design_circuit.specs.Fits.{Fits}
use Rattle.design_circuit.specs.Rule.{rule, arguments}
use Rattle.design_circuit.specs.World.{decided}
use Rattle.design_circuit.proofs.Rules.{AgreeOn, arguments_below, rule_reads}
use Rattle.design_circuit.proofs.Worlds.{decided_known}
use Rattle.law_model.specs.Places.{among}
use Rattle.law_model.specs.Assignment.{with_bit, assigned, for_every}
use Rattle.law_model.specs.Cone.{are_alike, is_essential, essentials, only, table}
use Rattle.law_model.proofs.Assignments.{every_passes, assigned_agrees}
use Rattle.law_model.proofs.CarryLaw.{TrueWorld, overlaid, agree_below, nets_along}
use Rattle.law_model.proofs.PlacesWhere.{picked_in, all_among, among_all}

abbrev Inessential : ((ℕ → Bool) → Value) → ℕ → Type 0
Inessential r x = (b : ℕ → Bool) (u v : Bool) → r (with_bit x u b) ≡ r (with_bit x v b)

abbrev Reads : ((ℕ → Bool) → Value) → List ℕ → Type 0
Reads r xs = (b g : ℕ → Bool) → AgreeOn b g xs → r b ≡ r g

all_from : (P : ℕ → Type 0) (xs : List ℕ) → ((k : ℕ) → P k) → AllByRecursion P xs
all_from P [] h = tt
all_from P (x ∷ xs) h = (h x, all_from P xs h)

set_same : (b : ℕ → Bool) (x k : ℕ) (v : Bool) → b x ≡ v → with_bit x v b k ≡ b k
set_same b x k v e = elim (eqb_tells k x) as (λ _. with_bit x v b k ≡ b k) [
  | inl p ↦ rw p.0 (sym e ∙ ap b (sym p.1))
  | inr p ↦ rw p.0 refl
]

overwrite : List ℕ → (ℕ → Bool) → (ℕ → Bool) → ℕ → Bool
overwrite [] b g = b
overwrite (y ∷ ys) b g = with_bit y (g y) (overwrite ys b g)

overwrite_either : (ys : List ℕ) (b g : ℕ → Bool) (k : ℕ) → (overwrite ys b g k ≡ b k) ⊎ (overwrite ys b g k ≡ g k)
unfolding overwrite
overwrite_either [] b g k = inl refl
overwrite_either (y ∷ ys) b g k = elim (eqb_tells k y) as (λ _.
    (overwrite (y ∷ ys) b g k ≡ b k) ⊎ (overwrite (y ∷ ys) b g k ≡ g k)) [
      | inl p ↦ inr (rw p.0 (ap g (sym p.1)))
      | inr p ↦ rw p.0 (overwrite_either ys b g k)
    ]

overwrite_kept : (ys : List ℕ) (b g : ℕ → Bool) (k : ℕ) → overwrite ys b g k ≡ g k → (y : ℕ)
    → overwrite (y ∷ ys) b g k ≡ g k
unfolding overwrite
overwrite_kept ys b g k h y = elim (eqb_tells k y) as (λ _. overwrite (y ∷ ys) b g k ≡ g k) [
  | inl p ↦ rw p.0 (ap g (sym p.1))
  | inr p ↦ rw p.0 h
]

overwrite_reads : (ys : List ℕ) (b g : ℕ → Bool) → AgreeOn (overwrite ys b g) g ys
unfolding overwrite
overwrite_reads [] b g = tt
overwrite_reads (y ∷ ys) b g = (
  elim (eqb_tells y y) as (λ _. overwrite (y ∷ ys) b g y ≡ g y) [ inl p ↦ rw p.0 refl | inr p ↦ absurd (p.1 refl) ],
  nets_along _ _ ys (λ k h. overwrite_kept ys b g k h y) (overwrite_reads ys b g),
)

overwrite_same : (r : (ℕ → Bool) → Value) (xs : List ℕ) → Reads r xs → (b g : ℕ → Bool) (ys : List ℕ)
    → AllByRecursion (λ y. (b y ≡ g y) ⊎ Inessential r y) ys → r (overwrite ys b g) ≡ r b
unfolding overwrite
overwrite_same r xs reads b g [] all = refl
overwrite_same r xs reads b g (y ∷ ys) all =
    let u = overwrite ys b g in
    let point : (v w : ℕ → Bool) → ((k : ℕ) → v k ≡ w k) → r v ≡ r w = λ v w h. reads v w (all_from _ xs h) in
    let rest : r u ≡ r b = overwrite_same r xs reads b g ys all.1 in
    let here : r (with_bit y (g y) u) ≡ r u = elim all.0 as (λ _. r (with_bit y (g y) u) ≡ r u) [
      | inl e ↦ (let kept : u y ≡ g y = elim (overwrite_either ys b g y) as (λ _. u y ≡ g y) [
        | inl q ↦ q
            ∙ e
        | inr q ↦ q
      ] in
          point (with_bit y (g y) u) u (λ k. set_same u y k (g y) kept))
      | inr none ↦ none u (g y) (u y) ∙ point (with_bit y (u y) u) u (λ k. set_same u y k (u y) refl)
    ] in
    here ∙ rest

-- Bits that agree at the essential arguments give one result.
essential_only : (r : (ℕ → Bool) → Value) (xs : List ℕ) → Reads r xs → (b g : ℕ → Bool)
    → AllByRecursion (λ y. (b y ≡ g y) ⊎ Inessential r y) xs → r b ≡ r g
essential_only r xs reads b g all = sym (overwrite_same r xs reads b g xs all)
    ∙ reads (overwrite xs b g) g (overwrite_reads xs b g)

alike_is : (x y : Value) → are_alike x y ≡ true → x ≡ y
alike_is Zero Zero h = refl
alike_is One One h = refl
alike_is X X h = refl
alike_is Z Z h = refl
alike_is Zero One h = cc
alike_is Zero X h = cc
alike_is Zero Z h = cc
alike_is One Zero h = cc
alike_is One X h = cc
alike_is One Z h = cc
alike_is X Zero h = cc
alike_is X One h = cc
alike_is X Z h = cc
alike_is Z Zero h = cc
alike_is Z One h = cc
alike_is Z X h = cc

-- A certain argument.
known_assigned : (c : ℕ → Value) (x : ℕ) (b : ℕ → Bool) (u v : Bool) → is_unknown (c x) ≡ false → (i : ℕ)
    → assigned c (with_bit x u b) i ≡ assigned c (with_bit x v b) i
known_assigned c x b u v known i = elim (eqb_tells i x) as (λ _. assigned c (with_bit x u b) i ≡ assigned c
    (with_bit x v b) i) [
      | inl p ↦ rw p.0 (subst (λ k. decided (c k) u ≡ decided (c k) v) (sym p.1)
          (decided_known (c x) u v (is_known (c x) known)))
      | inr p ↦ rw p.0 refl
    ]
  where
    is_known : (y : Value) → is_unknown y ≡ false → IsKnown y
    is_known Zero h = tt
    is_known One h = tt
    is_known X h = cc
    is_known Z h = cc

-- An uncertain one.
open_assigned : (c : ℕ → Value) (x : ℕ) (b : ℕ → Bool) (u : Bool) → is_unknown (c x) ≡ true → (i : ℕ)
    → assigned c (with_bit x u b) i ≡ with_bit x u (assigned c b) i
open_assigned c x b u unknown i = elim (eqb_tells i x) as (λ _. assigned c (with_bit x u b) i ≡ with_bit x u
    (assigned c b) i) [
      | inl p ↦ rw p.0 (subst (λ k. decided (c k) u ≡ u) (sym p.1) (taken (c x) unknown))
      | inr p ↦ rw p.0 refl
    ]
  where
    taken : (y : Value) → is_unknown y ≡ true → decided y u ≡ u
    taken Zero h = cc
    taken One h = cc
    taken X h = refl
    taken Z h = refl

pub with_agrees : (x : ℕ) (u : Bool) (f g : ℕ → Bool) (k : ℕ) → f k ≡ g k → with_bit x u f k ≡ with_bit x u g k
with_agrees x u f g k same = rw same refl

either_bit : {A : Type 0} (f : Bool → A) → f false ≡ f true → (u v : Bool) → f u ≡ f v
either_bit f same false false = refl
either_bit f same false true = same
either_bit f same true false = sym same
either_bit f same true true = refl

abbrev on : Job → (ℕ → Value) → ℕ → (ℕ → Bool) → Value
on j c place bits = rule j c (assigned c bits) place

-- An argument that isn't essential makes no difference.
inessential : (j : Job) (c : ℕ → Value) (place x : ℕ) → is_essential j c place x ≡ false → Inessential (on j c place) x
inessential j c place x none b u v = ⊎_elim open_case known_case (cases_Bool (is_unknown (c x)))
  where
    test : (ℕ → Bool) → Bool
    test bits = are_alike (rule j c (with_bit x false bits) place) (rule j c (with_bit x true bits) place)

    every : is_unknown (c x) ≡ true → for_every j c place
        (λ bits. are_alike (rule j c (with_bit x false bits) place) (rule j c (with_bit x true bits) place)) ≡ true
    every unknown = ⊎_elim (λ (h : is_unknown (c x) ≡ false). (let e : true ≡ false = sym unknown ∙ h in cc))
        (λ (h : not (for_every j c place (λ bits. are_alike (rule j c (with_bit x false bits) place)
        (rule j c (with_bit x true bits) place))) ≡ false). not-false _ h) (and_cases (is_unknown (c x)) _ none)

    with_reads : (w : Bool) (f g : ℕ → Bool) → AgreeOn f g (arguments j c place)
        → rule j c (with_bit x w f) place ≡ rule j c (with_bit x w g) place
    with_reads w f g agree = rule_reads j c (with_bit x w f) (with_bit x w g) place
        (nets_along _ _ (arguments j c place) (λ k same. with_agrees x w f g k same) agree)

    alike : is_unknown (c x) ≡ true → rule j c (with_bit x false (assigned c b)) place ≡ rule j c
        (with_bit x true (assigned c b)) place
    alike unknown = alike_is _ _ (every_passes j c place
        (λ bits. are_alike (rule j c (with_bit x false bits) place) (rule j c (with_bit x true bits) place))
        (λ f g agree. (rw (with_reads false f g agree, with_reads true f g agree) refl)) (every unknown) b)

    open_case : is_unknown (c x) ≡ true → on j c place (with_bit x u b) ≡ on j c place (with_bit x v b)
    open_case unknown =
        ap (λ f. rule j c f place) (fun_ext (open_assigned c x b u unknown))
        ∙ either_bit (λ w. rule j c (with_bit x w (assigned c b)) place) (alike unknown) u v
        ∙ sym (ap (λ f. rule j c f place) (fun_ext (open_assigned c x b v unknown)))

    known_case : is_unknown (c x) ≡ false → on j c place (with_bit x u b) ≡ on j c place (with_bit x v b)
    known_case known = ap (λ f. rule j c f place) (fun_ext (known_assigned c x b u v known))

-- Assignments that agree at the essential arguments give one result.
essential_reads : (j : Job) → Fits j → (c : ℕ → Value) (place : ℕ) → place < places_of j → (f g : ℕ → Bool)
    → AgreeOn f g (essentials j c place) → rule j c (assigned c f) place ≡ rule j c (assigned c g) place
unfolding essentials
essential_reads j fits c place within f g agree =
    essential_only (on j c place) (arguments j c place)
    (λ b h same. rule_reads j c (assigned c b) (assigned c h) place
    (assigned_agrees c b h (arguments j c place) same)) f g
    (nets_along _ _ (arguments j c place) each (arguments_below j fits c place within))
  where
    each : (y : ℕ) → y < place → (f y ≡ g y) ⊎ Inessential (on j c place) y
    each y less = ⊎_elim (λ (h : is_essential j c place y ≡ true). inl
        (all_among (λ k. f k ≡ g k) (essentials j c place) y agree (picked_in (is_essential j c place) place y less h)))
        (λ (h : is_essential j c place y ≡ false). inr (inessential j c place y h))
        (cases_Bool (is_essential j c place y))

only_at : (places : List ℕ) (bits : ℕ → Bool) (k : ℕ) → among places k ≡ true → bits k ≡ only places bits k
only_at places bits k h = rw h refl

only_same : (places : List ℕ) (f g : ℕ → Bool) (k : ℕ) → AgreeOn f g places → only places f k ≡ only places g k
only_same places f g k agree =
    ⊎_elim (λ (h : among places k ≡ true). (rw (h, all_among (λ i. f i ≡ g i) places k agree h) refl))
    (λ (h : among places k ≡ false). (rw h refl)) (cases_Bool (among places k))

-- The rule of an assignment is the table on its bits.
pub rule_table : (j : Job) → Fits j → (c : ℕ → Value) (place : ℕ) → place < places_of j → (bits : ℕ → Bool)
    → rule j c (assigned c bits) place ≡ table j c place bits
unfolding table
rule_table j fits c place within bits =
    essential_reads j fits c place within bits (only (essentials j c place) bits)
    (among_all _ (essentials j c place) (λ k h. only_at (essentials j c place) bits k h))

-- The table reads the essential arguments alone.
pub table_reads : (j : Job) (c : ℕ → Value) (place : ℕ) (f g : ℕ → Bool) → AgreeOn f g (essentials j c place)
    → table j c place f ≡ table j c place g
unfolding table
table_reads j c place f g agree =
    ap (λ bits. rule j c (assigned c bits) place) (fun_ext (λ k. only_same (essentials j c place) f g k agree))

-- In a world a place's rule is its table on the world's bits.
pub world_table : (j : Job) → Fits j → (c : ℕ → Value) (f w : ℕ → Bool) (place : ℕ) → TrueWorld j c f w place
    → rule j c w place ≡ table j c place w
world_table j fits c f w place seen =
    rule_reads j c w (assigned c w) place (agree_below w (assigned c w) place (arguments j c place)
    (arguments_below j fits c place seen.within)
    (λ k less. sym (overlaid (c k) (w k) (λ bit is. seen.exact k bit less is))))
    ∙ rule_table j fits c place seen.within w
