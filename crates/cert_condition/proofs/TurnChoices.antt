-- Places of a cone and of its boundary, their roots, and their literals in a turn query.
use Rattle.std.proofs.Common.{◌≡◌, ◌≢◌, ℕ, zero, suc, ◌+◌, ◌<◌, ◌≤◌, ◌==◌, not, Bool, true, false, List, [], ◌∷◌, length, refl, sym, ap, ◌∙◌, arith, subst, ⊎_elim, inl, inr, Contains, slice_index_or}
use Rattle.std.specs.Prelude.{pos, nat_abs}
use Rattle.std.specs.List.{list_any}
use Rattle.std.proofs.lemmas.Bool.{cases_Bool, and_parts, and_from, eqb-true, or_cases, not-true}
use Rattle.std.proofs.lemmas.Map.Views.{any-filter_same}
use Rattle.std.proofs.lemmas.Bool.Decides.{eqb_tells}
use Rattle.design_cell.specs.declared.value.Value.{Value}
use Rattle.design_cell.specs.declared.value.Value.TheVariants.{Zero, One, X, Z}
use Rattle.design_cell.specs.Value.{bit_value, is_unknown}
use Rattle.design_circuit.specs.Job.{Job, places_of}
use Rattle.design_circuit.specs.Fits.{Fits}
use Rattle.design_circuit.specs.Order.{position_of}
use Rattle.design_circuit.specs.Rule.{arguments, rule}
use Rattle.design_circuit.proofs.Rules.{AgreeOn, rule_reads, arguments_below}
use Rattle.law_model.specs.Assignment.{argument_places}
use Rattle.law_model.specs.Places.{among, places_where}
use Rattle.law_model.specs.Class.{class_of, flipped}
use Rattle.law_model.specs.Root.{Root, root_of}
use Rattle.law_model.specs.Cone.{is_carried, in_cone, cone, essentials, supports_by, supports}
use Rattle.law_model.specs.Query.{is_variable, signed}
use Rattle.law_model.specs.declared.class.ClassByNumber.{ClassByNumber}
use Rattle.law_model.specs.declared.class.ClassByNumber.TheVariants.{Local, Free, Carried, Line}
use Rattle.law_model.proofs.MetClauses.{Says, value_signed, flipped_back}
use Rattle.law_model.proofs.ConeModels.{found_at, found_within}
use Rattle.law_model.proofs.Cones.{cone_within, cone_closed}
use Rattle.law_model.proofs.PlacesWhere.{among_itself, contains_among, among_all, all_among, picked_in, in_picked, or_left, or_right, any_in, in_any}
use Rattle.law_model.proofs.Roots.{root_own, root_carried, carried_below}
use Rattle.decide_cone.specs.Boundary.{boundary, certain_boundary, is_boundary, is_near, is_outside, reads}
use Rattle.cert_condition.specs.Condition.{Obeys}
use Rattle.cert_condition.specs.TurnQuery.{is_turn_variable, turn_variables, turn_root, turn_variable_of, turn_literal, turn_model_of, turn_choice_of}

-- The root of a place of a cone is a place of the cone that isn't carried.
variable_free : (j : Job) (c : ℕ → Value) (root k : ℕ) → in_cone j c root k ≡ true
    → is_carried (class_of j c k) ≡ false → is_variable j c root (root_of j c k).place ≡ true
variable_free j c root k inside free =
    subst (λ (r : Root). is_variable j c root r.place ≡ true) (sym (root_own j c k free))
    (and_from (in_cone j c root k) (not (is_carried (class_of j c k))) inside (ap not free))

variable_class : (j : Job) → Fits j → (c : ℕ → Value) (root k : ℕ) (class : ClassByNumber) → root < places_of j
    → in_cone j c root k ≡ true → class_of j c k ≡ class
    → ((from : ℕ) → from < k → in_cone j c root from ≡ true → is_variable j c root (root_of j c from).place ≡ true)
    → is_variable j c root (root_of j c k).place ≡ true
variable_class j fits c root k (Carried from inverted) within inside is before =
    let low = cone_within j fits c root k within inside in
    let one : among (supports j c k) from ≡ true =
    subst (λ class. among (supports_by (essentials j c k) class) from ≡ true) (sym is) (among_itself from []) in
    subst (λ (r : Root). is_variable j c root r.place ≡ true)
    (sym (root_carried j fits c k from inverted (omega (arith, low, within)) is))
    (before from (carried_below j fits c k from inverted (omega (arith, low, within)) is)
    (cone_closed j fits c root k from within inside one))
variable_class j fits c root k (Local bit) within inside is before = variable_free j c root k inside (ap is_carried is)
variable_class j fits c root k Free within inside is before = variable_free j c root k inside (ap is_carried is)
variable_class j fits c root k Line within inside is before = variable_free j c root k inside (ap is_carried is)

variable_below : (j : Job) → Fits j → (c : ℕ → Value) (root n k : ℕ) → k < n → root < places_of j
    → in_cone j c root k ≡ true → is_variable j c root (root_of j c k).place ≡ true
variable_below j fits c root zero k less within inside = absurd (omega arith)
variable_below j fits c root (suc n) k less within inside =
    variable_class j fits c root k (class_of j c k) within inside refl
    (λ from before deeper. variable_below j fits c root n from (omega arith) within deeper)

pub root_variable : (j : Job) → Fits j → (c : ℕ → Value) (root k : ℕ) → root < places_of j
    → in_cone j c root k ≡ true → is_variable j c root (root_of j c k).place ≡ true
root_variable j fits c root k within inside = variable_below j fits c root (suc k) k (omega arith) within inside

-- What is outside of the cone isn't among its places.
outside_cone : (j : Job) (c : ℕ → Value) (root k : ℕ) → in_cone j c root k ≡ false → among (cone j c root) k ≡ false
outside_cone j c root k out = ⊎_elim (λ (h : among (cone j c root) k ≡ true).
    (let inside = (in_picked (in_cone j c root) (root + 1) k h).1 in let e : true ≡ false = sym inside ∙ out in cc))
    (λ (h : among (cone j c root) k ≡ false). h) (cases_Bool (among (cone j c root) k))

-- A boundary place stands before some place of the cone,
pub boundary_low : (j : Job) (c : ℕ → Value) (root k : ℕ) → is_boundary j c root k ≡ true → k < root
boundary_low j c root k is =
    let parts = and_parts (is_outside (cone j c root) k) (list_any (reads j c k) (cone j c root)) is in
    let reader = in_any (reads j c k) (cone j c root) parts.1 in
    let low = (in_picked (in_cone j c root) (root + 1) reader.0 reader.1).0 in
    let at = (and_parts (not (is_carried (class_of j c reader.0))) (among (argument_places j c reader.0) k) reader.2).1 in
    let less = (in_picked (among (arguments j c reader.0)) reader.0 k at).0 in
    omega (arith, low, less)

-- and isn't in the cone,
pub boundary_outside : (j : Job) (c : ℕ → Value) (root k : ℕ) → is_boundary j c root k ≡ true
    → in_cone j c root k ≡ false
boundary_outside j c root k is =
    let parts = and_parts (is_outside (cone j c root) k) (list_any (reads j c k) (cone j c root)) is in
    let low = boundary_low j c root k is in
    ⊎_elim (λ (h : in_cone j c root k ≡ true).
    (let at : among (cone j c root) k ≡ true = picked_in (in_cone j c root) (root + 1) k (omega (arith, low)) h in
    let e : true ≡ false = sym at ∙ not-true _ parts.0 in cc)) (λ (h : in_cone j c root k ≡ false). h)
    (cases_Bool (in_cone j c root k))

-- and any such place is one.
pub boundary_from : (j : Job) (c : ℕ → Value) (root k : ℕ) → in_cone j c root k ≡ false
    → list_any (reads j c k) (cone j c root) ≡ true → is_boundary j c root k ≡ true
boundary_from j c root k out read = and_from (is_outside (cone j c root) k) (list_any (reads j c k) (cone j c root))
    (ap not (outside_cone j c root k out)) read

pub near_within : (j : Job) → Fits j → (c : ℕ → Value) (root k : ℕ) → root < places_of j → is_near j c root k ≡ true
    → k < root + 1
near_within j fits c root k within near =
    ⊎_elim (λ (h : in_cone j c root k ≡ true). (let low = cone_within j fits c root k within h in omega (arith, low)))
    (λ (h : is_boundary j c root k ≡ true). (let low = boundary_low j c root k h in omega (arith, low)))
    (or_cases (in_cone j c root k) (is_boundary j c root k) near)

-- What a place of the cone that isn't carried reads is of the cone or of its boundary.
pub argument_near : (j : Job) → Fits j → (c : ℕ → Value) (root place k : ℕ) → root < places_of j
    → in_cone j c root place ≡ true → is_carried (class_of j c place) ≡ false
    → among (argument_places j c place) k ≡ true → is_near j c root k ≡ true
argument_near j fits c root place k within inside free at =
    let low = cone_within j fits c root place within inside in
    ⊎_elim (λ (h : in_cone j c root k ≡ true). or_left (in_cone j c root k) (is_boundary j c root k) h)
    (λ (h : in_cone j c root k ≡ false). or_right (in_cone j c root k) (is_boundary j c root k)
    (boundary_from j c root k h
    (any_in (reads j c k) (cone j c root) place (picked_in (in_cone j c root) (root + 1) place (omega (arith, low)) inside)
    (and_from (not (is_carried (class_of j c place))) (among (argument_places j c place) k) (ap not free) at))))
    (cases_Bool (in_cone j c root k))

-- Its rule reads these alone.
pub rule_reads_places : (j : Job) → Fits j → (c : ℕ → Value) (place : ℕ) → place < places_of j → (f g : ℕ → Bool)
    → AgreeOn f g (argument_places j c place) → rule j c f place ≡ rule j c g place
rule_reads_places j fits c place within f g agree =
    rule_reads j c f g place (among_all (λ k. f k ≡ g k) (arguments j c place) (λ k at.
    all_among (λ i. f i ≡ g i) (argument_places j c place) k agree
    (picked_in (among (arguments j c place)) place k
    (all_among (λ i. i < place) (arguments j c place) k (arguments_below j fits c place within) at) at)))

-- What stands for a place of the cone, and for one of its boundary.
pub root_inside : (j : Job) (c : ℕ → Value) (root k : ℕ) → in_cone j c root k ≡ true → turn_root j c root k ≡ root_of j c k
root_inside j c root k inside = rw inside refl

pub root_beside : (j : Job) (c : ℕ → Value) (root k : ℕ) → in_cone j c root k ≡ false
    → turn_root j c root k ≡ record { place = k; inverted = false }
root_beside j c root k outside = rw outside refl

-- A place of the cone that isn't carried stands for itself.
pub root_itself : (j : Job) (c : ℕ → Value) (root k : ℕ) → is_variable j c root k ≡ true
    → turn_root j c root k ≡ record { place = k; inverted = false }
root_itself j c root k is =
    let parts = and_parts (in_cone j c root k) (not (is_carried (class_of j c k))) is in
    root_inside j c root k parts.0 ∙ root_own j c k (not-true _ parts.1)

-- So does every variable's place.
pub variable_itself : (j : Job) (c : ℕ → Value) (root k : ℕ) → is_turn_variable j c root k ≡ true
    → turn_root j c root k ≡ record { place = k; inverted = false }
variable_itself j c root k is =
    ⊎_elim (λ (h : is_variable j c root k ≡ true). root_itself j c root k h)
    (λ (h : is_boundary j c root k ≡ true). root_beside j c root k (boundary_outside j c root k h))
    (or_cases (is_variable j c root k) (is_boundary j c root k) is)

-- What stands for a place is a variable.
pub near_variable : (j : Job) → Fits j → (c : ℕ → Value) (root k : ℕ) → root < places_of j → is_near j c root k ≡ true
    → is_turn_variable j c root (turn_root j c root k).place ≡ true
near_variable j fits c root k within near =
    ⊎_elim (λ (h : in_cone j c root k ≡ true).
    subst (λ (r : Root). is_turn_variable j c root r.place ≡ true) (sym (root_inside j c root k h))
    (or_left (is_variable j c root (root_of j c k).place) (is_boundary j c root (root_of j c k).place)
    (root_variable j fits c root k within h)))
    (λ (h : is_boundary j c root k ≡ true).
    subst (λ (r : Root). is_turn_variable j c root r.place ≡ true)
    (sym (root_beside j c root k (boundary_outside j c root k h)))
    (or_right (is_variable j c root k) (is_boundary j c root k) h))
    (or_cases (in_cone j c root k) (is_boundary j c root k) near)

pub variable_near : (j : Job) (c : ℕ → Value) (root k : ℕ) → is_turn_variable j c root k ≡ true → is_near j c root k ≡ true
variable_near j c root k is =
    ⊎_elim (λ (h : is_variable j c root k ≡ true). or_left (in_cone j c root k) (is_boundary j c root k)
    (and_parts (in_cone j c root k) (not (is_carried (class_of j c k))) h).0)
    (λ (h : is_boundary j c root k ≡ true). or_right (in_cone j c root k) (is_boundary j c root k) h)
    (or_cases (is_variable j c root k) (is_boundary j c root k) is)

-- Variables are among those that there are, and their numbers lead back to them.
pub variable_listed : (j : Job) → Fits j → (c : ℕ → Value) (root k : ℕ) → root < places_of j
    → is_turn_variable j c root k ≡ true → Contains (turn_variables j c root) k
unfolding turn_variables
variable_listed j fits c root k within is =
    contains_among (places_where (is_turn_variable j c root) (root + 1)) k
    (picked_in (is_turn_variable j c root) (root + 1) k
    (near_within j fits c root k within (variable_near j c root k is)) is)

pub variable_found : (j : Job) → Fits j → (c : ℕ → Value) (root k : ℕ) → root < places_of j
    → is_turn_variable j c root k ≡ true
    → slice_index_or (turn_variables j c root) (position_of (turn_variables j c root) k) 0 ≡ k
variable_found j fits c root k within is = found_at (turn_variables j c root) k
    (variable_listed j fits c root k within is)

-- Each place of the cone or of its boundary has the bit of what stands for it, or the other one.
pub obeyed_root : (j : Job) (c : ℕ → Value) (root k : ℕ) (listed : List ℕ) (bits : ℕ → Bool)
    → Obeys j c root listed bits
    → bits k ≡ flipped (turn_root j c root k).inverted (bits (turn_root j c root k).place)
obeyed_root j c root k listed bits obeys =
    ⊎_elim (λ (h : in_cone j c root k ≡ true).
    subst (λ (r : Root). bits k ≡ flipped r.inverted (bits r.place)) (sym (root_inside j c root k h))
    (⊎_elim (λ (carried : is_carried (class_of j c k) ≡ true). obeys.carried k h carried)
    (λ (free : is_carried (class_of j c k) ≡ false).
    subst (λ (r : Root). bits k ≡ flipped r.inverted (bits r.place)) (sym (root_own j c k free)) refl)
    (cases_Bool (is_carried (class_of j c k)))))
    (λ (h : in_cone j c root k ≡ false).
    subst (λ (r : Root). bits k ≡ flipped r.inverted (bits r.place)) (sym (root_beside j c root k h)) refl)
    (cases_Bool (in_cone j c root k))

-- So a choice comes back from its model.
pub choice_back : (j : Job) → Fits j → (c : ℕ → Value) (root k : ℕ) (listed : List ℕ) (bits : ℕ → Bool)
    → root < places_of j → is_near j c root k ≡ true → Obeys j c root listed bits
    → turn_choice_of j c root (turn_model_of j c root bits) k ≡ bits k
choice_back j fits c root k listed bits within near obeys =
    ap (λ i. flipped (turn_root j c root k).inverted (bits i))
    (variable_found j fits c root (turn_root j c root k).place within (near_variable j fits c root k within near))
    ∙ sym (obeyed_root j c root k listed bits obeys)

-- The literals of places say what the choice of a model gives.
pub says_choice : (j : Job) (c : ℕ → Value) (root k : ℕ) (model : ℕ → Bool)
    → Says (turn_literal j c root) model (turn_choice_of j c root model) k
unfolding turn_literal
says_choice j c root k model bit =
    let r = turn_root j c root k in
    let n = position_of (turn_variables j c root) r.place in
    value_signed model n (flipped r.inverted bit) ∙ flipped_back r.inverted bit (model n)

pub says_obeyed : (j : Job) → Fits j → (c : ℕ → Value) (root k : ℕ) (listed : List ℕ) (bits : ℕ → Bool)
    → root < places_of j → is_near j c root k ≡ true → Obeys j c root listed bits
    → Says (turn_literal j c root) (turn_model_of j c root bits) bits k
says_obeyed j fits c root k listed bits within near obeys bit =
    says_choice j c root k (turn_model_of j c root bits) bit
    ∙ ap (flipped (not bit)) (choice_back j fits c root k listed bits within near obeys)

pub turn_literal_is : (j : Job) (c : ℕ → Value) (root k : ℕ) (bit : Bool)
    → turn_literal j c root k bit ≡ signed (turn_variable_of j c root k) (flipped (turn_root j c root k).inverted bit)
unfolding turn_literal
turn_literal_is j c root k bit = refl

pub position_low : (xs : List ℕ) (k : ℕ) → position_of xs k < length xs + 1
position_low [] k = omega arith
position_low (x ∷ xs) k = elim (eqb_tells x k) as (λ _. position_of (x ∷ xs) k < length (x ∷ xs) + 1) [
  | inl p ↦ rw p.0 (omega arith)
  | inr p ↦ (let ih = position_low xs k in rw p.0 (omega (arith, ih)))
]

-- The literals of these places are no zeros, and their variables are those that there are.
abs_signed : (n m : ℕ) (bit : Bool) → n < m → nat_abs (signed n bit) ≤ m
abs_signed n m true less = omega arith
abs_signed n m false less = omega arith

signed_some : (n : ℕ) (bit : Bool) → signed n bit ≢ pos 0
signed_some n true = λ e. cc
signed_some n false = λ e. cc

pub turn_literal_fits : (j : Job) → Fits j → (c : ℕ → Value) (root k : ℕ) (bit : Bool) → root < places_of j
    → is_near j c root k ≡ true → nat_abs (turn_literal j c root k bit) ≤ length (turn_variables j c root)
turn_literal_fits j fits c root k bit within near =
    subst (λ l. nat_abs l ≤ length (turn_variables j c root)) (sym (turn_literal_is j c root k bit))
    (abs_signed (turn_variable_of j c root k) (length (turn_variables j c root))
    (flipped (turn_root j c root k).inverted bit)
    (found_within (turn_variables j c root) (turn_root j c root k).place
    (variable_listed j fits c root (turn_root j c root k).place within (near_variable j fits c root k within near))))

pub turn_literal_some : (j : Job) (c : ℕ → Value) (root k : ℕ) (bit : Bool) → turn_literal j c root k bit ≢ pos 0
turn_literal_some j c root k bit =
    subst (λ l. l ≢ pos 0) (sym (turn_literal_is j c root k bit))
    (signed_some (turn_variable_of j c root k) (flipped (turn_root j c root k).inverted bit))

-- A listed place is a boundary place, and certain.
listed_both : (j : Job) (c : ℕ → Value) (root k : ℕ) → among (certain_boundary j c root) k ≡ true
    → (is_unknown (c k) ≡ false) × (among (boundary j c root) k ≡ true)
listed_both j c root k at =
    let same = any-filter_same (λ i. i == k) (λ i. not (is_unknown (c i))) (not (is_unknown (c k)))
    (λ i is. ap (λ n. not (is_unknown (c n))) (eqb-true i k is)) (boundary j c root) in
    let parts = and_parts (not (is_unknown (c k))) (among (boundary j c root) k) (sym same ∙ at) in
    (not-true _ parts.0, parts.1)

pub listed_from : (j : Job) (c : ℕ → Value) (root k : ℕ) → is_boundary j c root k ≡ true → is_unknown (c k) ≡ false
    → among (certain_boundary j c root) k ≡ true
listed_from j c root k is known =
    let same = any-filter_same (λ i. i == k) (λ i. not (is_unknown (c i))) (not (is_unknown (c k)))
    (λ i is. ap (λ n. not (is_unknown (c n))) (eqb-true i k is)) (boundary j c root) in
    same ∙ and_from (not (is_unknown (c k))) (among (boundary j c root) k) (ap not known)
    (picked_in (is_boundary j c root) root k (boundary_low j c root k is) is)

pub listed_beside : (j : Job) (c : ℕ → Value) (root k : ℕ) → among (certain_boundary j c root) k ≡ true
    → is_boundary j c root k ≡ true
listed_beside j c root k at = (in_picked (is_boundary j c root) root k (listed_both j c root k at).1).1

pub listed_known : (j : Job) (c : ℕ → Value) (root k : ℕ) → among (certain_boundary j c root) k ≡ true
    → (bit : Bool) × (c k ≡ bit_value bit)
listed_known j c root k at = bit_of_known (c k) (listed_both j c root k at).0
  where
    bit_of_known : (x : Value) → is_unknown x ≡ false → (bit : Bool) × (x ≡ bit_value bit)
    bit_of_known Zero h = (false, refl)
    bit_of_known One h = (true, refl)
    bit_of_known X h = cc
    bit_of_known Z h = cc
