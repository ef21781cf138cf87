-- The clauses of a cone, the unit clauses of its boundary and the denial of its value are apart, so that together they
-- are the turn query, in which each stands once.
use Rattle.std.proofs.Common.{◌≡◌, ◌≢◌, ℕ, zero, suc, ◌<◌, ◌≤◌, ◌==◌, not, Bool, true, false, List, [], ◌∷◌, ◌++◌, length, map, refl, sym, ap, ◌∙◌, arith, subst, ⊎_elim, Contains, slice_index_or}
use Rattle.std.specs.Prelude.{ℤ, nat_abs}
use Rattle.std.specs.List.{AllPairs}
use Rattle.std.proofs.lemmas.Bool.{and_from, cases_Bool, eqb-true, or_cases}
use Rattle.std.proofs.lemmas.List.Elements.{Contains-append_cases, Contains-append_left, Contains-append_right, Contains-push, Contains-push_cases}
use Rattle.design_cell.specs.declared.value.Value.{Value}
use Rattle.design_cell.specs.declared.value.Value.TheVariants.{Zero, One, X, Z}
use Rattle.design_cell.specs.Value.{bit_value}
use Rattle.design_circuit.specs.Job.{Job, places_of}
use Rattle.design_circuit.specs.declared.waveform.Written.{Written}
use Rattle.design_circuit.specs.Fits.{Fits}
use Rattle.design_circuit.specs.Rule.{arguments, rule}
use Rattle.design_circuit.specs.Waveform.{certain}
use Rattle.design_circuit.specs.World.{decided}
use Rattle.design_circuit.proofs.Exact.{empty_filling}
use Rattle.sat_proof.specs.declared.clause.Cnf.{Cnf}
use Rattle.law_model.specs.Assignment.{assigned}
use Rattle.law_model.specs.Class.{class_of, flipped}
use Rattle.law_model.specs.Cone.{essentials, in_cone, is_carried, only, table}
use Rattle.law_model.specs.Laws.{world_over}
use Rattle.law_model.specs.Places.{among}
use Rattle.law_model.specs.Query.{is_variable, signed}
use Rattle.law_model.specs.Root.{Root}
use Rattle.law_model.specs.Sound.{Sound}
use Rattle.law_model.specs.declared.line.Line.{Line as ALine}
use Rattle.law_model.proofs.Cones.{cone_self}
use Rattle.law_model.proofs.LawProofs.{worlds_are_consistent}
use Rattle.law_model.proofs.PlacesWhere.{among_contains, in_picked, or_left, or_right}
use Rattle.law_model.proofs.Roots.{root_within}
use Rattle.law_model.proofs.SoundWorlds.{certain_settles}
use Rattle.law_model.specs.declared.limits.Limits.{Limits}
use Rattle.decide_cone.specs.Boundary.{is_boundary}
use Rattle.cert_condition.specs.Condition.{AreOfBoundary}
use Rattle.cert_condition.specs.Laws.{HasCertainBit}
use Rattle.cert_condition.specs.TurnQuery.{AreWholeClauses, IsGivenClause, IsTurnClause, IsTurnQuery, IsWholeClause, denial, given, is_turn_variable, turn_denial, turn_literal, turn_root, turn_variable_of, turn_variables, unit_clause, unit_clauses, whole}
use Rattle.cert_condition.proofs.ApartLists.{joined_apart, mapped_apart, one_apart, only_one}
use Rattle.cert_condition.proofs.TurnChoices.{argument_near, boundary_outside, listed_beside, listed_known, near_variable, root_beside, root_inside, turn_literal_is, variable_found, variable_itself}

signed_number : (n m : ℕ) (a b : Bool) → signed n a ≡ signed m b → n ≡ m
signed_number n m true true same = let e = ap nat_abs same in omega (arith, e)
signed_number n m true false same = cc
signed_number n m false true same = cc
signed_number n m false false same = let e = ap nat_abs same in omega (arith, e)

signed_bit : (n : ℕ) (a b : Bool) → signed n a ≡ signed n b → a ≡ b
signed_bit n true true same = refl
signed_bit n true false same = cc
signed_bit n false true same = cc
signed_bit n false false same = refl

-- The images of listed places.
mapped_in : {Y : Type 0} (f : ℕ → Y) (listed : List ℕ) (k : ℕ) → among listed k ≡ true → Contains (map f listed) (f k)
mapped_in f [] k at = cc
mapped_in f (x ∷ xs) k at =
    ⊎_elim (λ (same : (x == k) ≡ true). subst (λ i. Contains (map f (x ∷ xs)) (f i)) (eqb-true x k same)
    (0, omega arith, refl))
    (λ (deeper : among xs k ≡ true). (let rest = mapped_in f xs k deeper in
    (suc rest.0, (let less = rest.1 in omega (arith, less)), rest.2)))
    (or_cases (x == k) (among xs k) at)

in_mapped : {Y : Type 0} (f : ℕ → Y) (listed : List ℕ) (y : Y) → Contains (map f listed) y
    → (k : ℕ) × (among listed k ≡ true) × (y ≡ f k)
in_mapped f [] y at = absurd (let less = at.1 in omega (arith, less))
in_mapped f (x ∷ xs) y (zero, less, is) = (x, or_left (x == x) (among xs x) (eq_itself x), sym is)
  where
    eq_itself : (n : ℕ) → (n == n) ≡ true
    eq_itself n = grind arith
in_mapped f (x ∷ xs) y (suc i, less, is) =
    let rest = in_mapped f xs y (i, omega (arith, less), is) in
    (rest.0, or_right (x == rest.0) (among xs rest.0) rest.1, rest.2)

known_decided : (x : Value) (bit : Bool) → x ≡ bit_value bit → decided x false ≡ bit
known_decided Zero false is = refl
known_decided Zero true is = cc
known_decided One false is = cc
known_decided One true is = refl
known_decided X false is = cc
known_decided X true is = cc
known_decided Z false is = cc
known_decided Z true is = cc

-- Places with one literal have one root,
same_root : (j : Job) → Fits j → (c : ℕ → Value) (root a b : ℕ) (x y : Bool) → root < places_of j
    → is_turn_variable j c root (turn_root j c root a).place ≡ true
    → is_turn_variable j c root (turn_root j c root b).place ≡ true
    → turn_literal j c root a x ≡ turn_literal j c root b y → (turn_root j c root a).place ≡ (turn_root j c root b).place
same_root j fits c root a b x y within first second same =
    sym (variable_found j fits c root (turn_root j c root a).place within first)
    ∙ ap (λ n. slice_index_or (turn_variables j c root) n 0)
    (signed_number _ _ _ _ (sym (turn_literal_is j c root a x) ∙ same ∙ turn_literal_is j c root b y))
    ∙ variable_found j fits c root (turn_root j c root b).place within second

-- and variables are their own.
same_variable : (j : Job) → Fits j → (c : ℕ → Value) (root a b : ℕ) (x y : Bool) → root < places_of j
    → is_turn_variable j c root a ≡ true → is_turn_variable j c root b ≡ true
    → turn_literal j c root a x ≡ turn_literal j c root b y → a ≡ b
same_variable j fits c root a b x y within first second same =
    let own : (turn_root j c root a).place ≡ a = ap (λ (r : Root). r.place) (variable_itself j c root a first) in
    let other : (turn_root j c root b).place ≡ b = ap (λ (r : Root). r.place) (variable_itself j c root b second) in
    sym own ∙ same_root j fits c root a b x y within
    (subst (λ k. is_turn_variable j c root k ≡ true) (sym own) first)
    (subst (λ k. is_turn_variable j c root k ≡ true) (sym other) second) same ∙ other

inside_variable : (j : Job) (c : ℕ → Value) (root k : ℕ) → in_cone j c root k ≡ true
    → is_carried (class_of j c k) ≡ false → is_turn_variable j c root k ≡ true
inside_variable j c root k inside free = or_left (is_variable j c root k) (is_boundary j c root k)
    (and_from (in_cone j c root k) (not (is_carried (class_of j c k))) inside (ap not free))

beside_variable : (j : Job) (c : ℕ → Value) (root k : ℕ) → is_boundary j c root k ≡ true
    → is_turn_variable j c root k ≡ true
beside_variable j c root k is = or_right (is_variable j c root k) (is_boundary j c root k) is

-- A place of the cone is none of the boundary.
inside_beside : (j : Job) (c : ℕ → Value) (root k b : ℕ) → in_cone j c root k ≡ true → is_boundary j c root b ≡ true
    → k ≡ b → ⊥
inside_beside j c root k b inside is same =
    let e : true ≡ false = sym inside ∙ ap (in_cone j c root) same ∙ boundary_outside j c root b is in cc

module _ (j : Job) (fits : Fits j) (c : ℕ → Value) (root : ℕ) (within : root < places_of j) where
  -- A clause of the cone has its own place's literal, and a unit clause of the boundary hasn't.
  whole_not_unit : (clause : List ℤ) → IsWholeClause j c root clause → (b : ℕ) (x : Bool)
      → is_boundary j c root b ≡ true → clause ≡ turn_literal j c root b x ∷ [] → ⊥
  whole_not_unit clause is b x beside same =
      inside_beside j c root is.place b is.inside beside
      (same_variable j fits c root is.place b is.bit x within (inside_variable j c root is.place is.inside is.free)
      (beside_variable j c root b beside)
      (only_one (turn_literal j c root is.place is.bit) (turn_literal j c root b x)
      (subst (λ xs. Contains xs (turn_literal j c root is.place is.bit)) same is.is_clause.gives)))

  -- Nor has the denial.
  denial_not_unit : (value : Bool) (b : ℕ) (x : Bool) → is_carried (class_of j c root) ≡ false
      → is_boundary j c root b ≡ true → turn_denial j c root value ≡ turn_literal j c root b x ∷ [] → ⊥
  denial_not_unit value b x free beside same =
      let inside = cone_self j fits c root within in
      inside_beside j c root root b inside beside
      (same_variable j fits c root root b (not value) x within (inside_variable j c root root inside free)
      (beside_variable j c root b beside)
      (only_one (turn_literal j c root root (not value)) (turn_literal j c root b x)
      (subst (λ xs. Contains xs (turn_literal j c root root (not value))) same (0, omega arith, refl))))

  -- Two listed places have two unit clauses.
  units_apart : (listed : List ℕ) → AreOfBoundary j c root listed → AllPairs (λ a b. a ≢ b) listed
      → AllPairs (λ a b. a ≢ b) (unit_clauses j c root listed)
  units_apart listed all apart = mapped_apart (unit_clause j c root) listed apart
      (λ a b ina inb same. same_variable j fits c root a b (decided (c a) false) (decided (c b) false) within
      (beside_variable j c root a (listed_beside j c root a (all a (among_contains listed a ina))))
      (beside_variable j c root b (listed_beside j c root b (all b (among_contains listed b inb))))
      (only_one (turn_literal j c root a (decided (c a) false)) (turn_literal j c root b (decided (c b) false))
      (subst (λ xs. Contains xs (turn_literal j c root a (decided (c a) false))) same (0, omega arith, refl))))

-- The literal of a variable's own place.
own_literal : (j : Job) (c : ℕ → Value) (root k : ℕ) (bit : Bool) → is_turn_variable j c root k ≡ true
    → turn_literal j c root k bit ≡ signed (turn_variable_of j c root k) bit
own_literal j c root k bit is = turn_literal_is j c root k bit
    ∙ ap (λ (r : Root). signed (turn_variable_of j c root k) (flipped r.inverted bit)) (variable_itself j c root k is)

-- No root stands behind its place.
turn_root_low : (j : Job) → Fits j → (c : ℕ → Value) (root k : ℕ) → k < places_of j → (turn_root j c root k).place ≤ k
turn_root_low j fits c root k within =
    ⊎_elim (λ (h : in_cone j c root k ≡ true).
    subst (λ (r : Root). r.place ≤ k) (sym (root_inside j c root k h)) (root_within j fits c k within))
    (λ (h : in_cone j c root k ≡ false).
    subst (λ (r : Root). r.place ≤ k) (sym (root_beside j c root k h)) (omega arith))
    (cases_Bool (in_cone j c root k))

never_not : (x : Bool) → x ≡ not x → ⊥
never_not false e = cc
never_not true e = cc

-- Where a clause of the cone is the denial, the rule of the place gives the other value whatever its argument places
-- have.
module _ (j : Job) (fits : Fits j) (c : ℕ → Value) (root : ℕ) (within : root < places_of j) (value : Bool)
    (free : is_carried (class_of j c root) ≡ false) (is : IsWholeClause j c root (turn_denial j c root value)) where
  own_root : is_turn_variable j c root root ≡ true
  own_root = inside_variable j c root root (cone_self j fits c root within) free

  gives_denial : turn_literal j c root is.place is.bit ≡ turn_literal j c root root (not value)
  gives_denial = only_one (turn_literal j c root is.place is.bit) (turn_literal j c root root (not value))
      is.is_clause.gives

  place_root : is.place ≡ root
  place_root = same_variable j fits c root is.place root is.bit (not value) within
      (inside_variable j c root is.place is.inside is.free) own_root gives_denial

  bit_other : is.bit ≡ not value
  bit_other = signed_bit (turn_variable_of j c root root) is.bit (not value)
      (sym (own_literal j c root root is.bit own_root)
      ∙ subst (λ k. turn_literal j c root k is.bit ≡ turn_literal j c root root (not value)) place_root gives_denial
      ∙ own_literal j c root root (not value) own_root)

  none_chosen : (k : ℕ) → is.chosen k ≡ true → ⊥
  none_chosen k taken =
      let at = is.choice.among_arguments k taken in
      let less = (in_picked (among (arguments j c is.place)) is.place k at).0 in
      let low : k < root = (let here = place_root in omega (arith, less, here)) in
      let same = only_one (turn_literal j c root k (not (is.bits k))) (turn_literal j c root root (not value))
      (is.is_clause.denies k taken) in
      let own : (turn_root j c root root).place ≡ root =
      ap (λ (r : Root). r.place) (variable_itself j c root root own_root) in
      let one : (turn_root j c root k).place ≡ root =
      same_root j fits c root k root (not (is.bits k)) (not value) within
      (near_variable j fits c root k within (argument_near j fits c root is.place k within is.inside is.free at))
      (subst (λ i. is_turn_variable j c root i ≡ true) (sym own) own_root) same ∙ own in
      let under = turn_root_low j fits c root k (omega (arith, low, within)) in
      omega (arith, low, one, under)

  always_other : (bits : ℕ → Bool) → rule j c bits root ≡ bit_value (not value)
  always_other bits =
      subst (λ k. rule j c bits k ≡ bit_value is.bit) place_root
      (is.choice.forces bits (λ k taken. absurd (none_chosen k taken)))
      ∙ ap bit_value bit_other

module _ (j : Job) (limits : Limits) (shown : ℕ → Value) (waveform : List Written) (lines : List ALine) (fits : Fits j)
    (sound : Sound j limits shown waveform lines) (root : ℕ) (value : Bool) (has : HasCertainBit j waveform root value) where
  -- So the denial is no clause of the cone: the world of the empty filling gives the value.
  denial_not_whole : IsWholeClause j (certain waveform) root (turn_denial j (certain waveform) root value) → ⊥
  unfolding table
  denial_not_whole is =
      let world = worlds_are_consistent j limits shown waveform lines fits sound root []
      (record { written = (let less = has.written in omega (arith, less)); within = has.within }) (empty_filling j) in
      let other : world_over j waveform [] root ≡ not value =
      world.ruled root (not value) (cone_self j fits (certain waveform) root has.within) has.free
      (always_other j fits (certain waveform) root has.within value has.free is
      (assigned (certain waveform) (only (essentials j (certain waveform) root) (world_over j waveform [])))) in
      never_not value
      (sym (certain_settles j limits shown waveform lines sound root value has.written has.has [] (empty_filling j)) ∙ other)

  -- Clauses of the cone, unit clauses and denial together.
  module _ (listed : List ℕ) (all : AreOfBoundary j (certain waveform) root listed) (apart : AllPairs (λ a b. a ≢ b) listed)
      (clauses : List (List ℤ)) (are : AreWholeClauses j (certain waveform) root clauses) where
    abbrev units : List (List ℤ)
    units = unit_clauses j (certain waveform) root listed

    abbrev last_one : List ℤ
    last_one = turn_denial j (certain waveform) root value

    given_of : (clause : List ℤ) → Contains units clause → IsGivenClause j (certain waveform) root listed clause
    given_of clause at =
        let unit = in_mapped (unit_clause j (certain waveform) root) listed clause at in
        let known = listed_known j (certain waveform) root unit.0 (all unit.0 unit.1) in
        record {
          place = unit.0;
          bit = known.0;
          listed_is = unit.1;
          has = known.1;
          is_clause = unit.2 ∙ ap (λ b. turn_literal j (certain waveform) root unit.0 b ∷ [])
              (known_decided (certain waveform unit.0) known.0 known.1);
        }

    from_given : (clause : List ℤ) → IsGivenClause j (certain waveform) root listed clause → Contains units clause
    from_given clause of = subst (Contains units)
        (ap (λ b. turn_literal j (certain waveform) root of.place b ∷ [])
        (known_decided (certain waveform of.place) of.bit of.has) ∙ sym of.is_clause)
        (mapped_in (unit_clause j (certain waveform) root) listed of.place of.listed_is)

    whole_apart : (x y : List ℤ) → Contains clauses x → Contains units y → x ≢ y
    whole_apart x y early late same =
        let unit = in_mapped (unit_clause j (certain waveform) root) listed y late in
        whole_not_unit j fits (certain waveform) root has.within x (are.each x early) unit.0
        (decided (certain waveform unit.0) false)
        (listed_beside j (certain waveform) root unit.0 (all unit.0 unit.1)) (same ∙ unit.2)

    last_apart : (x : List ℤ) → Contains (clauses ++ units) x → x ≢ last_one
    last_apart x at same =
        ⊎_elim (λ (h : Contains clauses x).
        denial_not_whole (subst (IsWholeClause j (certain waveform) root) same (are.each x h)))
        (λ (h : Contains units x). (let unit = in_mapped (unit_clause j (certain waveform) root) listed x h in
        denial_not_unit j fits (certain waveform) root has.within value unit.0 (decided (certain waveform unit.0) false)
        has.free (listed_beside j (certain waveform) root unit.0 (all unit.0 unit.1)) (sym same ∙ unit.2)))
        (Contains-append_cases clauses units x at)

    contained : (clause : List ℤ) → IsTurnClause j (certain waveform) root value listed clause
        → Contains ((clauses ++ units) ++ last_one ∷ []) clause
    contained clause (whole of) = Contains-append_left (clauses ++ units) (last_one ∷ []) clause
        (Contains-append_left clauses units clause (are.all clause of))
    contained clause (given of) = Contains-append_left (clauses ++ units) (last_one ∷ []) clause
        (Contains-append_right clauses units clause (from_given clause of))
    contained clause (denial e) = subst (Contains ((clauses ++ units) ++ last_one ∷ [])) (sym e)
        (Contains-push (clauses ++ units) last_one)

    pub turn_query_is : (query : Cnf) → query.vars ≡ length (turn_variables j (certain waveform) root)
        → query.clauses
        ≡ (clauses ++ unit_clauses j (certain waveform) root listed) ++ turn_denial j (certain waveform) root value ∷ []
        → IsTurnQuery j (certain waveform) root value listed query
    turn_query_is query counted made = record {
      vars = counted;
      each = λ clause at. ⊎_elim (λ (early : Contains (clauses ++ units) clause).
          ⊎_elim (λ (h : Contains clauses clause). whole (are.each clause h))
          (λ (h : Contains units clause). given (given_of clause h)) (Contains-append_cases clauses units clause early))
          (λ (same : last_one ≡ clause). denial (sym same))
          (Contains-push_cases (clauses ++ units) last_one clause (subst (λ cs. Contains cs clause) made at));
      all = λ clause of. subst (λ cs. Contains cs clause) (sym made) (contained clause of);
      once = subst (AllPairs (λ a b. a ≢ b)) (sym made)
          (joined_apart (λ a b. a ≢ b) (clauses ++ units) (last_one ∷ [])
          (joined_apart (λ a b. a ≢ b) clauses units are.once
          (units_apart j fits (certain waveform) root has.within listed all apart) whole_apart)
          (one_apart (λ a b. a ≢ b) last_one)
          (λ x y at one. λ same. last_apart x at (same ∙ only_one y last_one one)));
      front = clauses ++ units;
      last = made;
    }
