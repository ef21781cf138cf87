-- The law of cones, second half: the models of a cone's clauses are its consistent valuations.
use Rattle.std.proofs.Common.{◌≡◌, ◌≢◌, ◌≤◌, ℕ, zero, suc, ◌+◌, ◌<◌, not, Bool, true, false, List, [], ◌∷◌, length, refl, sym, ap, ◌∙◌, arith, add-one, subst, ⊎_elim, inl, inr, Contains, slice_index_or}
use Rattle.std.specs.Prelude.{ℤ, pos, nat_abs}
use Rattle.std.specs.List.{All}
use Rattle.std.proofs.lemmas.List.{get_or_default}
use Rattle.std.proofs.lemmas.Bool.{cases_Bool, and_parts, and_from, not-true, eq-eqb, ne_eqb}
use Rattle.std.proofs.lemmas.Bool.Decides.{eqb_tells}
use Rattle.std.proofs.lemmas.List.Elements.{Contains-get_or}
use Rattle.std.specs.List.Sorted.{IsStrictlyIncreasing}
use Rattle.design_cell.specs.declared.value.Value.{Value}
use Rattle.design_circuit.specs.Job.{Job, places_of}
use Rattle.design_circuit.specs.Fits.{Fits}
use Rattle.design_circuit.specs.Order.{position_of}
use Rattle.design_circuit.proofs.OrderLemmas.{net_at_position, position_within}
use Rattle.sat_proof.specs.Assignment.{IsMet, HasNoZero}
use Rattle.sat_proof.specs.Log.{Refutes}
use Rattle.sat_proof.specs.declared.clause.Cnf.{Cnf}
use Rattle.law_model.specs.Places.{among, places_where}
use Rattle.law_model.specs.Class.{class_of, flipped}
use Rattle.law_model.specs.Root.{Root, root_of}
use Rattle.law_model.specs.Cone.{is_carried, in_cone, essentials, supports_by, supports, table, IsConsistent, denied_value}
use Rattle.law_model.specs.Query.{is_variable, variables, signed, literal, IsConeClause, IsQueryClause, IsQuery, denial, model_of, valuation_of}
use Rattle.law_model.specs.declared.class.ClassByNumber.{ClassByNumber}
use Rattle.law_model.specs.declared.class.ClassByNumber.TheVariants.{Local, Free, Carried, Line}
use Rattle.law_model.proofs.MetClauses.{Says, value_signed, flipped_back, flipped_twice, is_bit, other_bit, choice_met}
use Rattle.law_model.proofs.ConeWorlds.{free_supports}
use Rattle.law_model.proofs.EssentialArguments.{table_reads}
use Rattle.law_model.proofs.RefutedQueries.{never_met}
use Rattle.law_model.proofs.MinimalChoices.{Setting, obeys}
use Rattle.law_model.proofs.Cones.{cone_within, cone_closed, cone_self}
use Rattle.law_model.proofs.PlacesWhere.{among_itself, contains_among, among_contains, picked_in, in_picked, picked_rises}
use Rattle.law_model.proofs.Roots.{root_own, root_carried, carried_below}

-- What is said of the root of a place of a cone: it is a variable, and a consistent valuation gives the place its
-- bit, or the other one.
record HasRoot (j : Job) (c : ℕ → Value) (root k : ℕ) : Type 0 where
  variable : is_variable j c root (root_of j c k).place ≡ true
  bit : (v : ℕ → Bool) → IsConsistent j c root v → v k ≡ flipped (root_of j c k).inverted (v (root_of j c k).place)

root_free : (j : Job) (c : ℕ → Value) (root k : ℕ) → in_cone j c root k ≡ true → is_carried (class_of j c k) ≡ false
    → HasRoot j c root k
root_free j c root k inside free =
    let own = sym (root_own j c k free) in
    record {
      variable = subst (λ (r : Root). is_variable j c root r.place ≡ true) own
          (and_from (in_cone j c root k) (not (is_carried (class_of j c k))) inside (ap not free));
      bit = λ v consistent. subst (λ (r : Root). v k ≡ flipped r.inverted (v r.place)) own refl;
    }

root_on : (j : Job) → Fits j → (c : ℕ → Value) (root k from : ℕ) (inverted : Bool) → k < places_of j
    → in_cone j c root k ≡ true → class_of j c k ≡ Carried from inverted → HasRoot j c root from → HasRoot j c root k
root_on j fits c root k from inverted within inside is has =
    let back = sym (root_carried j fits c k from inverted within is) in
    record {
      variable = subst (λ (r : Root). is_variable j c root r.place ≡ true) back has.variable;
      bit = λ v consistent. subst (λ (r : Root). v k ≡ flipped r.inverted (v r.place)) back
          (consistent.carried k from inverted inside is ∙ ap (flipped inverted) (has.bit v consistent)
          ∙ sym (flipped_twice inverted (root_of j c from).inverted (v (root_of j c from).place)));
    }

root_class : (j : Job) → Fits j → (c : ℕ → Value) (root k : ℕ) (class : ClassByNumber) → root < places_of j
    → in_cone j c root k ≡ true → class_of j c k ≡ class
    → ((from : ℕ) → from < k → in_cone j c root from ≡ true → HasRoot j c root from) → HasRoot j c root k
root_class j fits c root k (Carried from inverted) within inside is before =
    let low = cone_within j fits c root k within inside in
    let one : among (supports j c k) from ≡ true =
    subst (λ class. among (supports_by (essentials j c k) class) from ≡ true) (sym is) (among_itself from []) in
    root_on j fits c root k from inverted (omega (arith, low, within)) inside is
    (before from (carried_below j fits c k from inverted (omega (arith, low, within)) is)
    (cone_closed j fits c root k from within inside one))
root_class j fits c root k (Local bit) within inside is before = root_free j c root k inside (ap is_carried is)
root_class j fits c root k Free within inside is before = root_free j c root k inside (ap is_carried is)
root_class j fits c root k Line within inside is before = root_free j c root k inside (ap is_carried is)

root_below : (j : Job) → Fits j → (c : ℕ → Value) (root n k : ℕ) → k < n → root < places_of j
    → in_cone j c root k ≡ true → HasRoot j c root k
root_below j fits c root zero k less within inside = absurd (omega arith)
root_below j fits c root (suc n) k less within inside =
    root_class j fits c root k (class_of j c k) within inside refl
    (λ from before deeper. root_below j fits c root n from (omega arith) within deeper)

has_root : (j : Job) → Fits j → (c : ℕ → Value) (root k : ℕ) → root < places_of j → in_cone j c root k ≡ true
    → HasRoot j c root k
has_root j fits c root k within inside = root_below j fits c root (suc k) k (omega arith) within inside

pub found_at : (xs : List ℕ) (k : ℕ) → Contains xs k → slice_index_or xs (position_of xs k) 0 ≡ k
found_at xs k at = net_at_position xs k at.0 at.1 (get_or_default xs at.0 0 k at.1 ∙ at.2)

position_low : (xs : List ℕ) (k : ℕ) → position_of xs k < length xs + 1
position_low [] k = omega arith
position_low (x ∷ xs) k = elim (eqb_tells x k) as (λ _. position_of (x ∷ xs) k < length (x ∷ xs) + 1) [
  | inl p ↦ rw p.0 (omega arith)
  | inr p ↦ (let ih = position_low xs k in rw p.0 (omega (arith, ih)))
]

pub rises_far : (xs : List ℕ) (k : ℕ) → IsStrictlyIncreasing xs → k + 1 < length xs
    → slice_index_or xs 0 0 < slice_index_or xs (k + 1) 0
rises_far xs zero rises less = rises 0 less
rises_far xs (suc k) rises less =
    let ih = rises_far xs k rises (omega arith) in
    let up = rises (suc k) less in
    let same : suc k ≡ k + 1 = omega arith in
    omega (arith, ih, up, ap (λ i. slice_index_or xs i 0) same)

tail : (x : ℕ) (xs : List ℕ) → IsStrictlyIncreasing (x ∷ xs) → IsStrictlyIncreasing xs
tail x xs rises k less =
    let same : suc k + 1 ≡ suc (k + 1) = omega arith in
    subst (λ i. slice_index_or (x ∷ xs) (suc k) 0 < slice_index_or (x ∷ xs) i 0) same (rises (suc k) (omega arith))

-- Each position of a list that ascends is that of its element.
pub position_rises : (xs : List ℕ) (p : ℕ) → IsStrictlyIncreasing xs → p < length xs
    → position_of xs (slice_index_or xs p 0) ≡ p
position_rises [] p rises less = absurd (omega arith)
position_rises (x ∷ xs) zero rises less = rw (eq-eqb x x refl) refl
position_rises (x ∷ xs) (suc p) rises less =
    let far : x < slice_index_or xs p 0 = (let e : slice_index_or (x ∷ xs) (p + 1) 0 ≡ slice_index_or xs p 0 =
    ap (λ i. slice_index_or (x ∷ xs) i 0) (add-one p) in let up = rises_far (x ∷ xs) p rises
    (omega arith) in omega (arith, e, up)) in
    let ih = position_rises xs p (tail x xs rises) (omega arith) in
    rw (ne_eqb x (slice_index_or xs p 0) (λ e. omega (arith, e, far)), ih) (omega arith)

literal_is : (j : Job) (c : ℕ → Value) (root k : ℕ) (bit : Bool)
    → literal j c root k bit ≡ signed (position_of (variables j c root) (root_of j c k).place)
    (flipped (root_of j c k).inverted bit)
unfolding literal
literal_is j c root k bit = refl

pub found_within : (xs : List ℕ) (k : ℕ) → Contains xs k → position_of xs k < length xs
found_within xs k at = position_within xs k at.0 at.1 (get_or_default xs at.0 0 k at.1 ∙ at.2)

-- A variable's number leads back to its place.
variable_at : (j : Job) → Fits j → (c : ℕ → Value) (root k : ℕ) → root < places_of j → is_variable j c root k ≡ true
    → slice_index_or (variables j c root) (position_of (variables j c root) k) 0 ≡ k
unfolding variables
variable_at j fits c root k within is =
    let inside : in_cone j c root k ≡ true = (and_parts (in_cone j c root k) (not (is_carried (class_of j c k)))
    is).0 in
    let low = cone_within j fits c root k within inside in
    found_at (places_where (is_variable j c root) (root + 1)) k
    (contains_among (places_where (is_variable j c root) (root + 1)) k
    (picked_in (is_variable j c root) (root + 1) k (omega (arith, low)) is))

within_variables : (j : Job) → Fits j → (c : ℕ → Value) (root k : ℕ) → root < places_of j
    → is_variable j c root k ≡ true → position_of (variables j c root) k < length (variables j c root)
unfolding variables
within_variables j fits c root k within is =
    let inside : in_cone j c root k ≡ true = (and_parts (in_cone j c root k) (not (is_carried (class_of j c k)))
    is).0 in
    let low = cone_within j fits c root k within inside in
    found_within (places_where (is_variable j c root) (root + 1)) k
    (contains_among (places_where (is_variable j c root) (root + 1)) k
    (picked_in (is_variable j c root) (root + 1) k (omega (arith, low)) is))

abs_signed : (n m : ℕ) (bit : Bool) → n < m → nat_abs (signed n bit) ≤ m
abs_signed n m true less = omega arith
abs_signed n m false less = omega arith

signed_some : (n : ℕ) (bit : Bool) → signed n bit ≢ pos 0
signed_some n true = λ e. cc
signed_some n false = λ e. cc

-- The literals of a cone's places are no zeros, and their variables are those that there are.
pub literal_fits : (j : Job) → Fits j → (c : ℕ → Value) (root k : ℕ) (bit : Bool) → root < places_of j
    → in_cone j c root k ≡ true → nat_abs (literal j c root k bit) ≤ length (variables j c root)
unfolding literal
literal_fits j fits c root k bit within inside =
    abs_signed (position_of (variables j c root) (root_of j c k).place) (length (variables j c root))
    (flipped (root_of j c k).inverted bit) (within_variables j fits c root (root_of j c k).place within
    (has_root j fits c root k within inside).variable)

pub literal_some : (j : Job) (c : ℕ → Value) (root k : ℕ) (bit : Bool) → literal j c root k bit ≢ pos 0
unfolding literal
literal_some j c root k bit = signed_some (position_of (variables j c root) (root_of j c k).place)
    (flipped (root_of j c k).inverted bit)

-- A consistent valuation is that of its model.
pub valuation_back : (j : Job) → Fits j → (c : ℕ → Value) (root k : ℕ) (v : ℕ → Bool) → root < places_of j
    → in_cone j c root k ≡ true → IsConsistent j c root v → valuation_of j c root (model_of j c root v) k ≡ v k
valuation_back j fits c root k v within inside consistent =
    let has = has_root j fits c root k within inside in
    ap (λ i. flipped (root_of j c k).inverted (v i))
    (variable_at j fits c root (root_of j c k).place within has.variable) ∙ sym (has.bit v consistent)

-- The literals of places say what the valuation of a model gives.
pub says_valuation : (j : Job) (c : ℕ → Value) (root k : ℕ) (model : ℕ → Bool)
    → Says (literal j c root) model (valuation_of j c root model) k
unfolding literal
says_valuation j c root k model bit =
    let r = root_of j c k in
    let n = position_of (variables j c root) r.place in
    value_signed model n (flipped r.inverted bit) ∙ flipped_back r.inverted bit (model n)

says_bits : (j : Job) → Fits j → (c : ℕ → Value) (root k : ℕ) (v : ℕ → Bool) → root < places_of j
    → in_cone j c root k ≡ true → IsConsistent j c root v → Says (literal j c root) (model_of j c root v) v k
says_bits j fits c root k v within inside consistent bit =
    says_valuation j c root k (model_of j c root v) bit
    ∙ ap (flipped (not bit)) (valuation_back j fits c root k v within inside consistent)

argument_inside : (j : Job) → Fits j → (c : ℕ → Value) (root place k : ℕ) → root < places_of j
    → in_cone j c root place ≡ true → is_carried (class_of j c place) ≡ false → among (essentials j c place) k ≡ true
    → in_cone j c root k ≡ true
argument_inside j fits c root place k within inside free at =
    cone_closed j fits c root place k within inside
    (subst (λ xs. among xs k ≡ true) (sym (free_supports (essentials j c place) (class_of j c place) free)) at)

-- The model of a consistent valuation makes the clauses of the cone true.
pub consistent_model : (j : Job) → Fits j → (c : ℕ → Value) (root : ℕ) (v : ℕ → Bool) (clause : List ℤ)
    → root < places_of j → IsConsistent j c root v → IsConeClause j c root clause → IsMet (model_of j c root v) clause
consistent_model j fits c root v clause within consistent is =
    choice_met (literal j c root) (model_of j c root v) v (essentials j c is.place) (table j c is.place) is.place
    is.chosen is.bits is.bit clause
    (λ k at. says_bits j fits c root k v within (argument_inside j fits c root is.place k within is.inside is.free at)
    consistent)
    (says_bits j fits c root is.place v within is.inside consistent)
    (consistent.ruled is.place is.bit is.inside is.free) is.choice is.is_clause

denial_met : (j : Job) → Fits j → (c : ℕ → Value) (root : ℕ) (v : ℕ → Bool) (clause : List ℤ) → root < places_of j
    → IsConsistent j c root v → not (flipped (not (denied_value j c root)) (v root)) ≡ true → clause ≡ denial j c root
    → IsMet (model_of j c root v) clause
denial_met j fits c root v clause within consistent other is =
    let l = literal j c root root (not (denied_value j c root)) in
    subst (IsMet (model_of j c root v)) (sym is) (
      l,
      (0, omega arith, refl),
      says_bits j fits c root root v within (cone_self j fits c root within) consistent
          (not (denied_value j c root)) ∙ other_bit (v root) (denied_value j c root) other,
    )

-- Where a model makes the clauses of the cone true, its valuation is consistent.
pub model_consistent : (j : Job) → Fits j → (c : ℕ → Value) (root : ℕ) (model : ℕ → Bool) → root < places_of j
    → ((clause : List ℤ) → IsConeClause j c root clause → IsMet model clause)
    → IsConsistent j c root (valuation_of j c root model)
model_consistent j fits c root model within met = record {
  carried = λ place from inverted inside is. (let low = cone_within j fits c root place within inside in
      ap (λ (r : Root). flipped r.inverted (model (position_of (variables j c root) r.place)))
      (root_carried j fits c place from inverted (omega (arith, low, within)) is)
      ∙ flipped_twice inverted (root_of j c from).inverted
      (model (position_of (variables j c root) (root_of j c from).place)));
  ruled = λ place bit inside free gives. obeys (literal j c root) model (valuation_of j c root model)
      (essentials j c place) (table j c place) place bit (setting place bit inside free) (table_reads j c place) gives;
}
  where
    setting : (place : ℕ) (bit : Bool) → in_cone j c root place ≡ true → is_carried (class_of j c place) ≡ false
        → flipped (not bit) (valuation_of j c root model place) ≡ false
        → Setting (literal j c root) model (valuation_of j c root model) (essentials j c place) (table j c place) place
        bit
    setting place bit inside free off = record {
      number = λ k. position_of (variables j c root) (root_of j c k).place;
      inverted = λ k. (root_of j c k).inverted;
      bound = length (variables j c root) + 1;
      shape = literal_is j c root;
      low = λ k. position_low (variables j c root) (root_of j c k).place;
      truth = λ k. says_valuation j c root k model;
      off = off;
      met = λ chosen clause choice is. met clause
          (record {
            place = place;
            bit = bit;
            chosen = chosen;
            bits = valuation_of j c root model;
            inside = inside;
            free = free;
            choice = choice;
            is_clause = is;
          });
    }

-- That valuation has the model's bits at the variables.
pub model_back : (j : Job) → Fits j → (c : ℕ → Value) (root n : ℕ) (model : ℕ → Bool) → root < places_of j
    → n < length (variables j c root) → model_of j c root (valuation_of j c root model) n ≡ model n
unfolding variables
model_back j fits c root n model within less =
    let vs = places_where (is_variable j c root) (root + 1) in
    let at : among vs (slice_index_or vs n 0) ≡ true = among_contains vs (slice_index_or vs n 0)
    (Contains-get_or vs n 0 less) in
    let free : is_carried (class_of j c (slice_index_or vs n 0)) ≡ false = not-true _
    (and_parts (in_cone j c root (slice_index_or vs n 0)) (not (is_carried (class_of j c (slice_index_or vs n 0))))
    (in_picked (is_variable j c root) (root + 1) (slice_index_or vs n 0) at).1).1 in
    ap (λ (r : Root). flipped r.inverted (model (position_of vs r.place))) (root_own j c (slice_index_or vs n 0) free)
    ∙ ap model (position_rises vs n (picked_rises (is_variable j c root) (root + 1)) less)

-- A log that refutes the query shows that every consistent valuation gives the place the value that is denied.
pub refuted_bit : (j : Job) → Fits j → (c : ℕ → Value) (root : ℕ) (v : ℕ → Bool) (query : Cnf)
    → (log : List (List ℤ)) → root < places_of j → IsConsistent j c root v → IsQuery j c root query
    → All HasNoZero log → Refutes query.clauses log
    → v root ≡ denied_value j c root
refuted_bit j fits c root v query log within consistent is no_zero refutes =
    ⊎_elim (λ (h : flipped (not (denied_value j c root)) (v root) ≡ true). is_bit (v root) (denied_value j c root) h)
    (λ (h : flipped (not (denied_value j c root)) (v root) ≡ false).
    absurd (never_met query.clauses log refutes no_zero (model_of j c root v)
    (λ clause at. met (ap not h) clause (is.each clause at))))
    (cases_Bool (flipped (not (denied_value j c root)) (v root)))
  where
    met : not (flipped (not (denied_value j c root)) (v root)) ≡ true → (clause : List ℤ)
        → IsQueryClause j c root clause → IsMet (model_of j c root v) clause
    met other clause (inl cone) = consistent_model j fits c root v clause within consistent cone
    met other clause (inr same) = denial_met j fits c root v clause within consistent other same
