-- Boundaries, turn queries and turns depend on the certain values up to their place alone.
use Rattle.std.proofs.Common.{◌≡◌, ℕ, ◌+◌, ◌<◌, ◌&&◌, ◌||◌, not, Bool, true, false, List, [], ◌∷◌, ◌++◌, filter, length, map, refl, sym, ap, ◌∙◌, arith, subst, ⊎_elim, append_assoc}
use Rattle.std.specs.Prelude.{ℤ}
use Rattle.std.specs.List.{AllByRecursion, list_any}
use Rattle.std.proofs.Math.Path.{fun_ext}
use Rattle.std.proofs.lemmas.Bool.{cases_Bool}
use Rattle.design_cell.specs.declared.value.Value.{Value}
use Rattle.design_cell.specs.Value.{is_unknown}
use Rattle.design_circuit.specs.Fits.{Fits}
use Rattle.design_circuit.specs.Job.{Job, places_of}
use Rattle.design_circuit.specs.Order.{position_of}
use Rattle.design_circuit.specs.World.{decided}
use Rattle.design_circuit.proofs.Rules.{AgreeBelow, arguments_certain, rule_local}
use Rattle.sat_proof.specs.declared.clause.Cnf.{Cnf}
use Rattle.law_model.specs.Assignment.{argument_places}
use Rattle.law_model.specs.Class.{class_of, flipped}
use Rattle.law_model.specs.Cone.{cone, in_cone, is_carried}
use Rattle.law_model.specs.Places.{among, places_where}
use Rattle.law_model.specs.Query.{IsChoice, IsClause, is_variable, signed}
use Rattle.law_model.specs.Root.{Root}
use Rattle.law_model.specs.declared.turn.Turn.{Turn}
use Rattle.law_model.specs.declared.turn.Turn.TheVariants.{Dropped, Needed, Tried}
use Rattle.law_model.proofs.ClassesBefore.{class_local}
use Rattle.law_model.proofs.Cones.{cone_within}
use Rattle.law_model.proofs.ConesBefore.{cone_local, in_cone_local}
use Rattle.law_model.proofs.PlacesWhere.{any_same, among_all, in_picked, picked_same}
use Rattle.law_model.proofs.Roots.{root_local}
use Rattle.decide_cone.specs.Boundary.{boundary, certain_boundary, is_boundary, is_outside, reads}
use Rattle.cert_condition.specs.TurnQuery.{AreWholeClauses, IsGivenClause, IsTurnClause, IsTurnQuery, IsWholeClause, denial, given, is_turn_variable, turn_denial, turn_literal, turn_root, turn_variables, unit_clause, unit_clauses, whole, whole_table}
use Rattle.cert_condition.specs.Turns.{AreTurns, AreTurnsOf, IsTurn, first_due, first_kept, kept_with}
use Rattle.cert_condition.proofs.KeptConditions.{among_skipped, first_listed}
use Rattle.cert_condition.proofs.TurnChoices.{boundary_low, listed_beside, root_beside, root_inside}

-- Listed places are none behind a place.
abbrev pub AreLow : ℕ → List ℕ → Type 0
AreLow root listed = (k : ℕ) → among listed k ≡ true → k < root + 1

filter_same : (p q : ℕ → Bool) (ks : List ℕ) → AllByRecursion (λ k. p k ≡ q k) ks → filter p ks ≡ filter q ks
filter_same p q [] same = refl
filter_same p q (k ∷ ks) same = rw (same.0, filter_same p q ks same.1) refl

map_same : {A : Type 0} (f g : ℕ → A) (ks : List ℕ) → AllByRecursion (λ k. f k ≡ g k) ks → map f ks ≡ map g ks
map_same f g [] same = refl
map_same f g (k ∷ ks) same = rw (same.0, map_same f g ks same.1) refl

module _ (j : Job) (fits : Fits j) (c d : ℕ → Value) (root : ℕ) (within : root < places_of j)
    (agree : AgreeBelow c d (root + 1)) where
  below : AgreeBelow c d root
  below k less = agree k (omega (arith, less))

  class_same : (k : ℕ) → k < root + 1 → class_of j c k ≡ class_of j d k
  class_same k low = class_local j fits c d k (omega (arith, low, within))
      (λ i less. agree i (omega (arith, low, less)))

  arguments_same : (k : ℕ) → k < root + 1 → argument_places j c k ≡ argument_places j d k
  arguments_same k low = ap (λ xs. places_where (among xs) k)
      (arguments_certain j fits c d k (omega (arith, low, within)) (λ i less. agree i (omega (arith, low, less))))

  table_same : (k : ℕ) → k < root + 1 → whole_table j c k ≡ whole_table j d k
  table_same k low = fun_ext (λ bits. rule_local j fits c d bits bits k (omega (arith, low, within))
      (λ i less. agree i (omega (arith, low, less))) (λ i less. refl))

  inside_same : in_cone j c root ≡ in_cone j d root
  inside_same = in_cone_local j fits c d root within below

  inside_moved : (k : ℕ) (b : Bool) → in_cone j c root k ≡ b → in_cone j d root k ≡ b
  inside_moved k b is = ap (λ (test : ℕ → Bool). test k) (sym inside_same) ∙ is

  cone_same : cone j c root ≡ cone j d root
  cone_same = cone_local j fits c d root within below

  -- The boundary.
  reads_same : (k place : ℕ) → place < root + 1 → reads j c k place ≡ reads j d k place
  reads_same k place low =
      ap (λ class. not (is_carried class) && among (argument_places j c place) k) (class_same place low)
      ∙ ap (λ xs. not (is_carried (class_of j d place)) && among xs k) (arguments_same place low)

  boundary_same : (k : ℕ) → is_boundary j c root k ≡ is_boundary j d root k
  boundary_same k =
      ap (λ b. is_outside (cone j c root) k && b) (any_same (reads j c k) (reads j d k) (cone j c root)
      (among_all (λ p. reads j c k p ≡ reads j d k p) (cone j c root)
      (λ p at. reads_same k p (in_picked (in_cone j c root) (root + 1) p at).0)))
      ∙ ap (λ ps. is_outside ps k && list_any (reads j d k) ps) cone_same

  pub certain_boundary_same : certain_boundary j c root ≡ certain_boundary j d root
  certain_boundary_same =
      filter_same (λ k. not (is_unknown (c k))) (λ k. not (is_unknown (d k))) (boundary j c root)
      (among_all (λ k. not (is_unknown (c k)) ≡ not (is_unknown (d k))) (boundary j c root)
      (λ k at. ap (λ v. not (is_unknown v)) (below k (in_picked (is_boundary j c root) root k at).0)))
      ∙ ap (filter (λ k. not (is_unknown (d k))))
      (picked_same (is_boundary j c root) (is_boundary j d root) root (λ k less. boundary_same k))

  pub boundary_is_low : AreLow root (certain_boundary j c root)
  boundary_is_low k at = let low = boundary_low j c root k (listed_beside j c root k at) in omega (arith, low)

  -- The variables, and the literals of places.
  variable_same : (k : ℕ) → k < root + 1 → is_turn_variable j c root k ≡ is_turn_variable j d root k
  variable_same k low =
      ap (λ (test : ℕ → Bool). (test k && not (is_carried (class_of j c k))) || is_boundary j c root k) inside_same
      ∙ ap (λ class. (in_cone j d root k && not (is_carried class)) || is_boundary j c root k) (class_same k low)
      ∙ ap (λ b. is_variable j d root k || b) (boundary_same k)

  pub variables_same : turn_variables j c root ≡ turn_variables j d root
  unfolding turn_variables
  variables_same = picked_same (is_turn_variable j c root) (is_turn_variable j d root) (root + 1) variable_same

  root_same : (k : ℕ) → turn_root j c root k ≡ turn_root j d root k
  root_same k = ⊎_elim
      (λ (h : in_cone j c root k ≡ true).
      (let low = cone_within j fits c root k within h in root_inside j c root k h
      ∙ root_local j fits c d k (omega (arith, low, within)) (λ i less. agree i (omega (arith, low, less)))
      ∙ sym (root_inside j d root k (inside_moved k true h))))
      (λ (h : in_cone j c root k ≡ false). root_beside j c root k h
      ∙ sym (root_beside j d root k (inside_moved k false h)))
      (cases_Bool (in_cone j c root k))

  literal_same : (k : ℕ) (bit : Bool) → turn_literal j c root k bit ≡ turn_literal j d root k bit
  unfolding turn_literal
  literal_same k bit =
      ap (λ vs. signed (position_of vs (turn_root j c root k).place) (flipped (turn_root j c root k).inverted bit))
      variables_same
      ∙ ap (λ (r : Root). signed (position_of (turn_variables j d root) r.place) (flipped r.inverted bit)) (root_same k)

  literals_same : turn_literal j c root ≡ turn_literal j d root
  literals_same = fun_ext (λ k. fun_ext (λ bit. literal_same k bit))

  -- The clauses.
  pub denial_same : (value : Bool) → turn_denial j c root value ≡ turn_denial j d root value
  denial_same value = ap (λ (says : ℕ → Bool → ℤ). says root (not value) ∷ []) literals_same

  pub unit_same : (k : ℕ) → k < root + 1 → unit_clause j c root k ≡ unit_clause j d root k
  unit_same k low =
      ap (λ (says : ℕ → Bool → ℤ). says k (decided (c k) false) ∷ []) literals_same
      ∙ ap (λ v. turn_literal j d root k (decided v false) ∷ []) (agree k low)

  pub units_same : (listed : List ℕ) → AreLow root listed
      → unit_clauses j c root listed ≡ unit_clauses j d root listed
  units_same listed low = map_same (unit_clause j c root) (unit_clause j d root) listed
      (among_all (λ k. unit_clause j c root k ≡ unit_clause j d root k) listed (λ k at. unit_same k (low k at)))

  whole_moved : (clause : List ℤ) → IsWholeClause j c root clause → IsWholeClause j d root clause
  whole_moved clause is =
      let up = cone_within j fits c root is.place within is.inside in
      let low : is.place < root + 1 = omega (arith, up) in
      record {
        place = is.place;
        bit = is.bit;
        chosen = is.chosen;
        bits = is.bits;
        inside = inside_moved is.place true is.inside;
        free = ap is_carried (sym (class_same is.place low)) ∙ is.free;
        choice = subst (λ xs. IsChoice xs (whole_table j d is.place) is.chosen is.bits is.bit)
            (arguments_same is.place low)
            (subst (λ t. IsChoice (argument_places j c is.place) t is.chosen is.bits is.bit) (table_same is.place low)
            is.choice);
        is_clause = subst (λ says. IsClause says is.place is.chosen is.bits is.bit clause) literals_same is.is_clause;
      }

  given_moved : (listed : List ℕ) (clause : List ℤ) → AreLow root listed → IsGivenClause j c root listed clause
      → IsGivenClause j d root listed clause
  given_moved listed clause low is = record {
    place = is.place;
    bit = is.bit;
    listed_is = is.listed_is;
    has = sym (agree is.place (low is.place is.listed_is)) ∙ is.has;
    is_clause = is.is_clause ∙ ap (λ (says : ℕ → Bool → ℤ). says is.place is.bit ∷ []) literals_same;
  }

  clause_moved : (value : Bool) (listed : List ℕ) (clause : List ℤ) → AreLow root listed
      → IsTurnClause j c root value listed clause → IsTurnClause j d root value listed clause
  clause_moved value listed clause low (whole is) = whole (whole_moved clause is)
  clause_moved value listed clause low (given is) = given (given_moved listed clause low is)
  clause_moved value listed clause low (denial is) = denial (is ∙ denial_same value)

back : (c d : ℕ → Value) (n : ℕ) → AgreeBelow c d n → AgreeBelow d c n
back c d n agree k less = sym (agree k less)

module _ (j : Job) (fits : Fits j) (c d : ℕ → Value) (root : ℕ) (within : root < places_of j)
    (agree : AgreeBelow c d (root + 1)) where
  pub whole_clauses_moved : (clauses : List (List ℤ)) → AreWholeClauses j c root clauses
      → AreWholeClauses j d root clauses
  whole_clauses_moved clauses are = record {
    each = λ clause at. whole_moved j fits c d root within agree clause (are.each clause at);
    all = λ clause is. are.all clause (whole_moved j fits d c root within (back c d (root + 1) agree) clause is);
    once = are.once;
  }

  query_moved : (value : Bool) (listed : List ℕ) (query : Cnf) → AreLow root listed
      → IsTurnQuery j c root value listed query → IsTurnQuery j d root value listed query
  query_moved value listed query low is = record {
    vars = is.vars ∙ ap length (variables_same j fits c d root within agree);
    each = λ clause at. clause_moved j fits c d root within agree value listed clause low (is.each clause at);
    all = λ clause of. is.all clause
        (clause_moved j fits d c root within (back c d (root + 1) agree) value listed clause low of);
    once = is.once;
    front = is.front;
    last = is.last ∙ ap (λ clause. is.front ++ clause ∷ []) (denial_same j fits c d root within agree value);
  }

  -- The turns.
  turn_moved : (value : Bool) (limit : ℕ) (listed : List ℕ) (turn : Turn) → AreLow root listed
      → IsTurn j c root value limit listed turn → IsTurn j d root value limit listed turn
  turn_moved value limit listed turn low is = record {
    query = is.query;
    is_query = query_moved value listed is.query low is.is_query;
    finds = is.finds;
  }

  still_low : (kept due : List ℕ) (place : ℕ) (turn : Turn) → AreLow root (kept ++ place ∷ due)
      → AreLow root (kept_with kept place turn ++ due)
  still_low kept due place (Dropped log) low k at = low k (among_skipped kept due place k at)
  still_low kept due place (Needed model) low k at =
      low k (subst (λ ks. among ks k ≡ true) (append_assoc kept (place ∷ []) due) at)
  still_low kept due place (Tried log) low k at =
      low k (subst (λ ks. among ks k ≡ true) (append_assoc kept (place ∷ []) due) at)

  turns_moved : (value : Bool) (limit : ℕ) (kept due : List ℕ) (turns : List Turn) → AreLow root (kept ++ due)
      → AreTurns j c root value limit kept due turns → AreTurns j d root value limit kept due turns
  turns_moved value limit kept due [] low are = are
  turns_moved value limit kept [] (turn ∷ turns) low are = are
  turns_moved value limit kept (place ∷ due) (turn ∷ turns) low are = (
    turn_moved value limit (kept ++ due) turn (λ k at. low k (among_skipped kept due place k at)) are.0,
    turns_moved value limit (kept_with kept place turn) due turns (still_low kept due place turn low) are.1,
  )

  pub turns_of_moved : (value : Bool) (limit : ℕ) (turns : List Turn) → AreTurnsOf j c root value limit turns
      → AreTurnsOf j d root value limit turns
  turns_of_moved value limit turns are =
      let b : List ℕ = certain_boundary j c root in
      subst (λ places. AreTurns j d root value limit (first_kept places) (first_due places) turns)
      (certain_boundary_same j fits c d root within agree)
      (turns_moved value limit (first_kept b) (first_due b) turns
      (subst (AreLow root) (sym (first_listed b)) (boundary_is_low j fits c d root within agree)) are)
