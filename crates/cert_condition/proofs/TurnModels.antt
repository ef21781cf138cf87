-- The models of a turn query are the choices that obey its list and give the place the other value.
use Rattle.std.proofs.Common.{◌≡◌, ℕ, zero, suc, ◌+◌, ◌<◌, ◌≤◌, not, Bool, true, false, List, [], ◌∷◌, ◌++◌, length, refl, sym, ap, ◌∙◌, arith, length-append, subst, ⊎_elim, Contains, slice_index_or}
use Rattle.std.specs.Prelude.{ℤ, pos, negsuc, nat_abs}
use Rattle.std.proofs.Math.ListN.{get_or-append}
use Rattle.std.proofs.Math.Seq.{get_or-append_seam}
use Rattle.std.proofs.lemmas.Bool.{cases_eq}
use Rattle.std.proofs.lemmas.List.Elements.{All-contains, Contains-get_or}
use Rattle.design_cell.specs.declared.value.Value.{Value}
use Rattle.design_cell.specs.Value.{bit_value}
use Rattle.design_circuit.specs.Job.{Job, places_of}
use Rattle.design_circuit.specs.Fits.{Fits}
use Rattle.design_circuit.specs.Order.{position_of}
use Rattle.sat_proof.specs.Assignment.{value_of, IsMet, assigned}
use Rattle.sat_proof.proofs.ClosedSets.{all_from}
use Rattle.law_model.specs.Assignment.{argument_places}
use Rattle.law_model.specs.Places.{among, places_where}
use Rattle.law_model.specs.Class.{class_of, flipped}
use Rattle.law_model.specs.Root.{Root, root_of}
use Rattle.law_model.specs.Cone.{is_carried, in_cone}
use Rattle.law_model.proofs.MetClauses.{bit_is, is_bit, choice_met}
use Rattle.law_model.proofs.ConeModels.{position_rises}
use Rattle.law_model.proofs.Cones.{cone_self, cone_within}
use Rattle.law_model.proofs.MinimalChoices.{Setting, obeys}
use Rattle.law_model.proofs.RefutedQueries.{same_value, values, values_length}
use Rattle.law_model.proofs.PlacesWhere.{among_contains, in_picked, picked_rises, or_left, or_right}
use Rattle.decide_cone.specs.Boundary.{is_boundary, is_near}
use Rattle.cert_condition.specs.Condition.{AreOfBoundary, Obeys}
use Rattle.cert_condition.specs.TurnQuery.{IsWholeClause, IsGivenClause, IsTurnClause, whole, given, denial, is_turn_variable, turn_choice_of, turn_denial, turn_literal, turn_model_of, turn_root, turn_variable_of, turn_variables, whole_table}
use Rattle.cert_condition.specs.Laws.{ChoicesAreModels, ModelsAreChoices, TurnLaw}
use Rattle.cert_condition.proofs.TurnChoices.{argument_near, choice_back, listed_beside, listed_known, position_low, root_inside, root_itself, root_variable, rule_reads_places, says_choice, says_obeyed, turn_literal_fits, turn_literal_is, variable_itself}

bits_differ : (x y : Bool) → bit_value x ≡ bit_value y → x ≡ y
bits_differ false false e = refl
bits_differ false true e = cc
bits_differ true false e = cc
bits_differ true true e = refl

unit_met : (model : ℕ → Bool) (l : ℤ) → value_of model l ≡ true → IsMet model (l ∷ [])
unit_met model l on = (l, (0, omega arith, refl), on)

only_one : (l m : ℤ) → Contains (m ∷ []) l → l ≡ m
only_one l m (zero, less, is) = sym is
only_one l m (suc k, less, is) = absurd (omega (arith, less))

met_unit : (model : ℕ → Bool) (m : ℤ) → IsMet model (m ∷ []) → value_of model m ≡ true
met_unit model m (l, at, on) = subst (λ i. value_of model i ≡ true) (only_one l m at) on

near_cone : (j : Job) (c : ℕ → Value) (root k : ℕ) → in_cone j c root k ≡ true → is_near j c root k ≡ true
near_cone j c root k inside = or_left (in_cone j c root k) (is_boundary j c root k) inside

near_listed : (j : Job) (c : ℕ → Value) (root : ℕ) (listed : List ℕ) → AreOfBoundary j c root listed → (k : ℕ)
    → among listed k ≡ true → is_near j c root k ≡ true
near_listed j c root listed all k at =
    or_right (in_cone j c root k) (is_boundary j c root k) (listed_beside j c root k (all k at))

-- A choice that obeys makes each clause true.
module _ (j : Job) (fits : Fits j) (c : ℕ → Value) (root : ℕ) (value : Bool) (listed : List ℕ) (bits : ℕ → Bool)
    (within : root < places_of j) (all : AreOfBoundary j c root listed) (obeyed : Obeys j c root listed bits)
    (other : bits root ≡ not value) where
  whole_met : (clause : List ℤ) → IsWholeClause j c root clause → IsMet (turn_model_of j c root bits) clause
  whole_met clause is =
      choice_met (turn_literal j c root) (turn_model_of j c root bits) bits (argument_places j c is.place)
      (whole_table j c is.place) is.place is.chosen is.bits is.bit clause
      (λ k at. says_obeyed j fits c root k listed bits within
      (argument_near j fits c root is.place k within is.inside is.free at) obeyed)
      (says_obeyed j fits c root is.place listed bits within (near_cone j c root is.place is.inside) obeyed)
      (obeyed.ruled is.place is.bit is.inside is.free) is.choice is.is_clause

  given_met : (clause : List ℤ) → IsGivenClause j c root listed clause → IsMet (turn_model_of j c root bits) clause
  given_met clause is =
      subst (IsMet (turn_model_of j c root bits)) (sym is.is_clause)
      (unit_met (turn_model_of j c root bits) (turn_literal j c root is.place is.bit)
      (says_obeyed j fits c root is.place listed bits within (near_listed j c root listed all is.place is.listed_is)
      obeyed is.bit
      ∙ bit_is (bits is.place) is.bit (bits_differ _ _ (sym (obeyed.given is.place is.listed_is) ∙ is.has))))

  denial_met : (clause : List ℤ) → clause ≡ turn_denial j c root value → IsMet (turn_model_of j c root bits) clause
  denial_met clause is =
      subst (IsMet (turn_model_of j c root bits)) (sym is)
      (unit_met (turn_model_of j c root bits) (turn_literal j c root root (not value))
      (says_obeyed j fits c root root listed bits within (near_cone j c root root (cone_self j fits c root within))
      obeyed (not value) ∙ bit_is (bits root) (not value) other))

  turn_met : (clause : List ℤ) → IsTurnClause j c root value listed clause → IsMet (turn_model_of j c root bits) clause
  turn_met clause (whole is) = whole_met clause is
  turn_met clause (given is) = given_met clause is
  turn_met clause (denial is) = denial_met clause is

pub choices_are_models : ChoicesAreModels
choices_are_models j c root value listed bits fits within all obeyed other = record {
  met = turn_met j fits c root value listed bits within all obeyed other;
  back = λ k near. choice_back j fits c root k listed bits within near obeyed;
}

-- The choice of a model obeys.
module _ (j : Job) (fits : Fits j) (c : ℕ → Value) (root : ℕ) (value : Bool) (listed : List ℕ) (model : ℕ → Bool)
    (within : root < places_of j) (all : AreOfBoundary j c root listed)
    (met : (clause : List ℤ) → IsTurnClause j c root value listed clause → IsMet model clause) where
  unit_holds : (k : ℕ) (bit : Bool) → IsMet model (turn_literal j c root k bit ∷ [])
      → turn_choice_of j c root model k ≡ bit
  unit_holds k bit on =
      is_bit (turn_choice_of j c root model k) bit
      (sym (says_choice j c root k model bit) ∙ met_unit model (turn_literal j c root k bit) on)

  given_holds : (k : ℕ) → among listed k ≡ true → c k ≡ bit_value (turn_choice_of j c root model k)
  given_holds k at =
      let known = listed_known j c root k (all k at) in
      known.1 ∙ ap bit_value (sym (unit_holds k known.0 (met (turn_literal j c root k known.0 ∷ [])
      (given (record { place = k; bit = known.0; listed_is = at; has = known.1; is_clause = refl })))))

  -- what a place's own root stands for
  root_choice : (k : ℕ) → in_cone j c root k ≡ true
      → turn_choice_of j c root model (root_of j c k).place ≡ model (position_of (turn_variables j c root)
      (root_of j c k).place)
  root_choice k inside =
      ap (λ (r : Root). flipped r.inverted (model (position_of (turn_variables j c root) r.place)))
      (root_itself j c root (root_of j c k).place (root_variable j fits c root k within inside))

  carried_holds : (k : ℕ) → in_cone j c root k ≡ true → is_carried (class_of j c k) ≡ true
      → turn_choice_of j c root model k
      ≡ flipped (root_of j c k).inverted (turn_choice_of j c root model (root_of j c k).place)
  carried_holds k inside carried =
      ap (λ (r : Root). flipped r.inverted (model (position_of (turn_variables j c root) r.place)))
      (root_inside j c root k inside)
      ∙ ap (flipped (root_of j c k).inverted) (sym (root_choice k inside))

  setting : (place : ℕ) (bit : Bool) → in_cone j c root place ≡ true → is_carried (class_of j c place) ≡ false
      → flipped (not bit) (turn_choice_of j c root model place) ≡ false
      → Setting (turn_literal j c root) model (turn_choice_of j c root model) (argument_places j c place)
      (whole_table j c place) place bit
  setting place bit inside free off = record {
    number = turn_variable_of j c root;
    inverted = λ k. (turn_root j c root k).inverted;
    bound = length (turn_variables j c root) + 1;
    shape = turn_literal_is j c root;
    low = λ k. position_low (turn_variables j c root) (turn_root j c root k).place;
    truth = λ k. says_choice j c root k model;
    off = off;
    met = λ chosen clause choice is. met clause
        (whole (record {
          place = place;
          bit = bit;
          chosen = chosen;
          bits = turn_choice_of j c root model;
          inside = inside;
          free = free;
          choice = choice;
          is_clause = is;
        }));
  }

  ruled_holds : (k : ℕ) (bit : Bool) → in_cone j c root k ≡ true → is_carried (class_of j c k) ≡ false
      → whole_table j c k (turn_choice_of j c root model) ≡ bit_value bit → turn_choice_of j c root model k ≡ bit
  ruled_holds k bit inside free gives =
      let low = cone_within j fits c root k within inside in
      obeys (turn_literal j c root) model (turn_choice_of j c root model) (argument_places j c k) (whole_table j c k) k
      bit (setting k bit inside free) (rule_reads_places j fits c k (omega (arith, low, within))) gives

  choice_obeys : Obeys j c root listed (turn_choice_of j c root model)
  choice_obeys = record { given = given_holds; carried = carried_holds; ruled = ruled_holds }

  root_other : turn_choice_of j c root model root ≡ not value
  root_other = unit_holds root (not value) (met (turn_literal j c root root (not value) ∷ []) (denial refl))

-- A variable has the model's bit in the choice.
model_back : (j : Job) (c : ℕ → Value) (root n : ℕ) (model : ℕ → Bool) → n < length (turn_variables j c root)
    → turn_model_of j c root (turn_choice_of j c root model) n ≡ model n
unfolding turn_variables
model_back j c root n model less =
    let vs = places_where (is_turn_variable j c root) (root + 1) in
    let at : among vs (slice_index_or vs n 0) ≡ true = among_contains vs (slice_index_or vs n 0)
    (Contains-get_or vs n 0 less) in
    ap (λ (r : Root). flipped r.inverted (model (position_of vs r.place)))
    (variable_itself j c root (slice_index_or vs n 0)
    (in_picked (is_turn_variable j c root) (root + 1) (slice_index_or vs n 0) at).1)
    ∙ ap model (position_rises vs n (picked_rises (is_turn_variable j c root) (root + 1)) less)

pub models_are_choices : ModelsAreChoices
models_are_choices j c root value listed model fits within all met = record {
  obeys = choice_obeys j fits c root value listed model within all met;
  other = root_other j fits c root value listed model within all met;
  back = λ n less. model_back j c root n model less;
}

-- The literals of a turn query are of its variables.
fits_in : (j : Job) → Fits j → (c : ℕ → Value) (root : ℕ) (value : Bool) (listed : List ℕ) → root < places_of j
    → AreOfBoundary j c root listed → (clause : List ℤ) → IsTurnClause j c root value listed clause → (l : ℤ)
    → Contains clause l → nat_abs l ≤ length (turn_variables j c root)
fits_in j fits c root value listed within all clause (whole is) l at =
    ⊎_elim (λ (e : l ≡ turn_literal j c root is.place is.bit).
    subst (λ i. nat_abs i ≤ length (turn_variables j c root)) (sym e)
    (turn_literal_fits j fits c root is.place is.bit within (near_cone j c root is.place is.inside)))
    (λ (e : (argument : ℕ) × (is.chosen argument ≡ true) × (l ≡ turn_literal j c root argument (not (is.bits argument)))).
    subst (λ i. nat_abs i ≤ length (turn_variables j c root)) (sym e.2)
    (turn_literal_fits j fits c root e.0 (not (is.bits e.0)) within
    (argument_near j fits c root is.place e.0 within is.inside is.free (is.choice.among_arguments e.0 e.1))))
    (is.is_clause.no_other l at)
fits_in j fits c root value listed within all clause (given is) l at =
    subst (λ i. nat_abs i ≤ length (turn_variables j c root))
    (sym (only_one l (turn_literal j c root is.place is.bit) (subst (λ xs. Contains xs l) is.is_clause at)))
    (turn_literal_fits j fits c root is.place is.bit within (near_listed j c root listed all is.place is.listed_is))
fits_in j fits c root value listed within all clause (denial is) l at =
    subst (λ i. nat_abs i ≤ length (turn_variables j c root))
    (sym (only_one l (turn_literal j c root root (not value)) (subst (λ xs. Contains xs l) is at)))
    (turn_literal_fits j fits c root root (not value) within (near_cone j c root root (cone_self j fits c root within)))

-- Bits that aren't a value are the other one.
not_other : (x value : Bool) → (x ≡ not value → ⊥) → x ≡ value
not_other false false h = refl
not_other false true h = absurd (h refl)
not_other true false h = absurd (h refl)
not_other true true h = refl

never_other : (x value : Bool) → x ≡ value → x ≡ not value → ⊥
never_other false false e other = cc
never_other false true e other = cc
never_other true false e other = cc
never_other true true e other = cc

pub turn_law : TurnLaw
turn_law j c root value listed query fits within all is = (
  λ none. record {
    places = all;
    holds = λ bits obeyed. not_other (bits root) value (λ other. none (values (turn_model_of j c root bits) count) (record {
      count = values_length (turn_model_of j c root bits) count ∙ sym is.vars;
      met = all_from (IsMet (assigned (values (turn_model_of j c root bits) count))) query.clauses (λ clause at.
          (let on = turn_met j fits c root value listed bits within all obeyed other clause (is.each clause at) in (
            on.0,
            on.1,
            same_value (turn_model_of j c root bits) count on.0
                (fits_in j fits c root value listed within all clause (is.each clause at) on.0 on.1) ∙ on.2,
          )));
    }));
  },
  λ condition model is_model.
      (let met = λ (clause : List ℤ) (of : IsTurnClause j c root value listed clause).
      All-contains (IsMet (assigned model)) query.clauses clause is_model.met (is.all clause of) in
      never_other _ value
      (condition.holds (turn_choice_of j c root (assigned model))
      (choice_obeys j fits c root value listed (assigned model) within all met))
      (root_other j fits c root value listed (assigned model) within all met)),
)
  where
    count : ℕ
    count = length (turn_variables j c root)
