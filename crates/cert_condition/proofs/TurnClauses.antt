-- The clauses over the nodes of a turn query are those of its cone.
use Rattle.std.proofs.Common.{◌≡◌, ℕ, zero, suc, ◌+◌, ◌-◌, ◌<◌, ◌&&◌, not, Bool, true, false, List, [], ◌∷◌, ◌++◌, length, map, refl, sym, ap, ◌∙◌, arith, subst, ⊎_elim, slice_index}
use Rattle.std.specs.Prelude.{ℤ}
use Rattle.std.proofs.Math.ListN.{get_or-append}
use Rattle.std.proofs.Math.Seq.{get_or-append_seam}
use Rattle.std.proofs.lemmas.List.{length-map}
use Rattle.std.specs.List.Sorted.{IsStrictlyIncreasing}
use Rattle.design_cell.specs.declared.value.Value.{Value}
use Rattle.design_cell.specs.declared.value.Value.TheVariants.{X}
use Rattle.design_cell.specs.Value.{bit_value}
use Rattle.design_circuit.specs.Job.{Job}
use Rattle.design_circuit.specs.Order.{position_of}
use Rattle.design_circuit.specs.Rule.{arguments as arguments_of_rule}
use Rattle.design_circuit.specs.Waveform.{certain}
use Rattle.law_model.specs.Assignment.{argument_places}
use Rattle.law_model.specs.Class.{class_of}
use Rattle.law_model.specs.Cone.{in_cone, is_carried}
use Rattle.law_model.specs.Node.{NodeBody, carried, ruled, table_of, upto}
use Rattle.law_model.specs.Places.{among}
use Rattle.law_model.specs.Query.{IsChoice, IsClause}
use Rattle.law_model.proofs.ArgumentPositions.{Matches, choice_matched}
use Rattle.law_model.proofs.Cones.{cone_self, cone_within}
use Rattle.law_model.proofs.ConeModels.{found_at, found_within, position_rises}
use Rattle.law_model.proofs.PlacesWhere.{contains_among, in_picked, or_left, picked_in, picked_rises}
use Rattle.wave_proved.specs.Contents.{Contents, job}
use Rattle.decide_nodes.specs.declared.node.Node.{Node}
use Rattle.decide_nodes.specs.Nodes.{body_at}
use Rattle.decide_nodes.proofs.ConeBits.{last_place}
use Rattle.decide_cnf.specs.Clauses.{AreNodeClauses, IsNodeClause, IsTableClause, denial_of, node_says}
use Rattle.decide_cnf.specs.Literals.{AreLiterals, literal_at, says}
use Rattle.decide_cnf.proofs.NameMatches.{name_matches, number_matches}
use Rattle.decide_cnf.proofs.QueryClauses.{clause_matched, get_all}
use Rattle.decide_cone.specs.Boundary.{is_boundary, is_near, near_in}
use Rattle.cert_condition.specs.TurnNodes.{AreTurnNodes, IsOpen, IsTurnBody, IsWholeRule}
use Rattle.cert_condition.specs.TurnQuery.{AreWholeClauses, IsWholeClause, turn_denial, turn_literal, whole_table}
use Rattle.cert_condition.proofs.TurnLiterals.{near_count, near_fits, turn_node_literal}

mapped_at : (f : ℕ → ℕ) (xs : List ℕ) (i : ℕ) → i < length xs → slice_index (map f xs) i ≡ f (slice_index xs i)
mapped_at f [] i less = absurd (omega arith)
mapped_at f (x ∷ xs) zero less = refl
mapped_at f (x ∷ xs) (suc i) less = mapped_at f xs i (omega arith)

module _ (c : Contents) (root : ℕ) (nodes : List Node) (is : AreTurnNodes c root nodes) (literals : List ℤ)
    (are : AreLiterals nodes literals) (position : ℕ) (less : position < length nodes) (arguments : List ℕ)
    (values : List Value)
    (of : IsWholeRule (job c) (certain c.written) root (near_in c root) (slice_index (near_in c root) position) arguments values)
  where
    abbrev names : List ℕ
    names = argument_places (job c) (certain c.written) (slice_index (near_in c root) position)

    abbrev table_here : (ℕ → Bool) → Value
    table_here = whole_table (job c) (certain c.written) (slice_index (near_in c root) position)

    abbrev place_says : ℕ → Bool → ℤ
    place_says = turn_literal (job c) (certain c.written) root

    abbrev size : ℕ
    size = length (argument_places (job c) (certain c.written) (slice_index (near_in c root) position))

    names_long : length (argument_places (job c) (certain c.written) (slice_index (near_in c root) position))
        ≡ length arguments
    names_long = sym (ap length of.are_arguments) ∙ length-map arguments (slice_index (near_in c root))

    names_rise : IsStrictlyIncreasing (argument_places (job c) (certain c.written) (slice_index (near_in c root) position))
    names_rise = picked_rises (among (arguments_of_rule (job c) (certain c.written) (slice_index (near_in c root) position)))
        (slice_index (near_in c root) position)

    abbrev matches : Matches names (upto size) table_here (table_of values size)
    matches = name_matches names values table_here names_rise of.are_values

    abbrev back : Matches (upto size) names (table_of values size) table_here
    back = number_matches names values table_here names_rise of.are_values

    -- An argument's literal, and the node's own.
    argument_says : (i : ℕ) (x : Bool) → i < length arguments
        → node_says literals arguments position i x ≡ place_says (slice_index names i) x
    argument_says i x low =
        let all = near_count c root nodes is in
        let first : slice_index (arguments ++ position ∷ []) i ≡ slice_index arguments i =
        get_or-append arguments (position ∷ []) 0 i low in
        let within : slice_index arguments i < length nodes =
        (let less = get_all (λ k. k < length (near_in c root)) arguments i of.within low in omega (arith, less, all)) in
        let named : slice_index names i ≡ slice_index (near_in c root) (slice_index arguments i) =
        ap (λ xs. slice_index xs i) (sym of.are_arguments) ∙ mapped_at (slice_index (near_in c root)) arguments i low in
        ap (λ k. says (literal_at literals k) x) first
        ∙ sym (turn_node_literal c root nodes is literals are (slice_index arguments i) x within)
        ∙ ap (λ k. place_says k x) (sym named)

    own_says : (x : Bool) → node_says literals arguments position size x
        ≡ place_says (slice_index (near_in c root) position) x
    own_says x =
        ap (λ n. says (literal_at literals (slice_index (arguments ++ position ∷ []) n)) x) names_long
        ∙ ap (λ k. says (literal_at literals k) x) (get_or-append_seam arguments position [] 0)
        ∙ sym (turn_node_literal c root nodes is literals are position x less)

    name_says : (k : ℕ) (x : Bool) → among names k ≡ true
        → node_says literals arguments position (position_of names k) x ≡ place_says k x
    name_says k x at =
        let found = contains_among names k at in
        let long = names_long in
        argument_says (position_of names k) x (let low = found_within names k found in omega (arith, low, long))
        ∙ ap (λ i. place_says i x) (found_at names k found)

    number_says : (k : ℕ) (x : Bool) → among (upto size) k ≡ true
        → place_says (slice_index names k) x ≡ node_says literals arguments position k x
    number_says k x at =
        let long = names_long in
        sym (argument_says k x (let low = (in_picked (λ i. true) size k at).0 in omega (arith, low, long)))

    name_bits : (bits : ℕ → Bool) (k : ℕ) → among names k ≡ true
        → node_says literals arguments position (position_of names k) (not (bits (slice_index names (position_of names k))))
        ≡ place_says k (not (bits k))
    name_bits bits k at =
        ap (λ i. node_says literals arguments position (position_of names k) (not (bits i)))
        (found_at names k (contains_among names k at)) ∙ name_says k (not (bits k)) at

    number_bits : (bits : ℕ → Bool) (k : ℕ) → among (upto size) k ≡ true
        → place_says (slice_index names k) (not (bits (position_of names (slice_index names k))))
        ≡ node_says literals arguments position k (not (bits k))
    number_bits bits k at =
        ap (λ i. place_says (slice_index names k) (not (bits i)))
        (position_rises names k names_rise (in_picked (λ i. true) size k at).0) ∙ number_says k (not (bits k)) at

    -- The clauses of the place are those of the node's table.
    pub table_clause : (bit : Bool) (chosen bits : ℕ → Bool) (clause : List ℤ)
        → IsChoice names table_here chosen bits bit
        → IsClause place_says (slice_index (near_in c root) position) chosen bits bit clause
        → IsTableClause literals arguments values position clause
    table_clause bit chosen bits clause choice is_clause = record {
      bit = bit;
      chosen = λ k. among (upto size) k && chosen (slice_index names k);
      bits = λ k. bits (slice_index names k);
      choice = subst (λ n. IsChoice (upto n) (table_of values n) (λ k. among (upto size) k && chosen
          (slice_index names k))
          (λ k. bits (slice_index names k)) bit) names_long
          (choice_matched names (upto size) table_here (table_of values size) matches chosen bits bit choice);
      is_clause = subst (λ n. IsClause (node_says literals arguments position) n
          (λ k. among (upto size) k && chosen (slice_index names k)) (λ k. bits (slice_index names k)) bit clause)
          names_long (clause_matched names (upto size) table_here (table_of values size) matches place_says
          (node_says literals arguments position) (slice_index (near_in c root) position) size chosen bits
          (λ k. bits (slice_index names k)) bit clause (name_bits bits) own_says choice.among_arguments is_clause);
    }

    pub place_clause : (clause : List ℤ) → IsTableClause literals arguments values position clause
        → IsWholeClause (job c) (certain c.written) root clause
    place_clause clause is_table = record {
      place = slice_index (near_in c root) position;
      bit = is_table.bit;
      chosen = λ k. among names k && is_table.chosen (position_of names k);
      bits = λ k. is_table.bits (position_of names k);
      inside = of.inside;
      free = of.free;
      choice = choice_matched (upto size) names (table_of values size) table_here back is_table.chosen is_table.bits
          is_table.bit choice_here;
      is_clause = clause_matched (upto size) names (table_of values size) table_here back
          (node_says literals arguments position) place_says size (slice_index (near_in c root) position)
          is_table.chosen is_table.bits (λ k. is_table.bits (position_of names k)) is_table.bit clause
          (number_bits is_table.bits) (λ x. sym (own_says x))
          choice_here.among_arguments clause_here;
    }
      where
        choice_here : IsChoice (upto size) (table_of values size) is_table.chosen is_table.bits is_table.bit
        choice_here = subst (λ n. IsChoice (upto n) (table_of values n) is_table.chosen is_table.bits is_table.bit)
            (sym names_long) is_table.choice

        clause_here : IsClause (node_says literals arguments position) size is_table.chosen is_table.bits is_table.bit
            clause
        clause_here = subst (λ n. IsClause (node_says literals arguments position) n is_table.chosen is_table.bits
            is_table.bit clause) (sym names_long) is_table.is_clause

-- A boundary place has no clause.
x_forces : (bit : Bool) → X ≡ bit_value bit → ⊥
x_forces false e = cc
x_forces true e = cc

open_none : (literals : List ℤ) (arguments : List ℕ) (values : List Value) (position : ℕ) (clause : List ℤ)
    → arguments ≡ [] → values ≡ X ∷ [] → IsTableClause literals arguments values position clause → ⊥
open_none literals arguments values position clause none is_x of =
    let here : IsTableClause literals [] (X ∷ []) position clause =
    subst (λ vs. IsTableClause literals [] vs position clause) is_x
    (subst (λ xs. IsTableClause literals xs values position clause) none of) in
    x_forces here.bit (here.choice.forces here.bits (λ k taken. refl))

-- A place of the cone that isn't carried is a node with its whole table.
whole_body : (j : Job) (cert : ℕ → Value) (root : ℕ) (places : List ℕ) (place : ℕ) (body : NodeBody)
    → IsTurnBody j cert root places place body → in_cone j cert root place ≡ true
    → is_carried (class_of j cert place) ≡ false
    → (arguments : List ℕ) × (values : List Value) × (body ≡ ruled arguments values)
    × IsWholeRule j cert root places place arguments values
whole_body j cert root places place (carried node inverted) is inside free =
    let e : true ≡ false = sym (ap is_carried is.from.class) ∙ free in cc
whole_body j cert root places place (ruled arguments values) is inside free =
    ⊎_elim (λ (w : IsWholeRule j cert root places place arguments values). (arguments, values, refl, w))
    (λ (o : IsOpen j cert root place arguments values). (let e : true ≡ false = sym inside ∙ o.outside in cc)) is

module _ (c : Contents) (root : ℕ) (nodes : List Node) (is : AreTurnNodes c root nodes) (literals : List ℤ)
    (are : AreLiterals nodes literals) where
  node_whole : (clause : List ℤ) → IsNodeClause nodes literals clause
      → IsWholeClause (job c) (certain c.written) root clause
  node_whole clause of =
      let body : IsTurnBody (job c) (certain c.written) root (near_in c root) (slice_index (near_in c root) of.position)
      (ruled of.arguments of.values) =
      subst (IsTurnBody (job c) (certain c.written) root (near_in c root) (slice_index (near_in c root) of.position))
      of.body (is.bodies of.position of.within) in
      ⊎_elim (λ (w : IsWholeRule (job c) (certain c.written) root (near_in c root)
      (slice_index (near_in c root) of.position) of.arguments of.values).
      place_clause c root nodes is literals are of.position of.within of.arguments of.values w clause of.of_table)
      (λ (o : IsOpen (job c) (certain c.written) root (slice_index (near_in c root) of.position) of.arguments of.values).
      absurd (open_none literals of.arguments of.values of.position clause o.none o.is_x of.of_table)) body

  whole_node : (clause : List ℤ) → IsWholeClause (job c) (certain c.written) root clause
      → IsNodeClause nodes literals clause
  whole_node clause of =
      let places : List ℕ = near_in c root in
      let at : among places of.place ≡ true = picked_in (is_near (job c) (certain c.written) root) (root + 1) of.place
      (let low = cone_within (job c) (near_fits c root nodes is) (certain c.written) root of.place is.reach.within of.inside in
      omega (arith, low))
      (or_left (in_cone (job c) (certain c.written) root of.place) (is_boundary (job c) (certain c.written) root of.place)
      of.inside) in
      let found = contains_among places of.place at in
      let position : ℕ = position_of places of.place in
      let within : position < length nodes = (let low = found_within places of.place found in
      let all = near_count c root nodes is in omega (arith, low, all)) in
      let same : slice_index places position ≡ of.place = found_at places of.place found in
      by position within same
    where
      by : (position : ℕ) → position < length nodes → slice_index (near_in c root) position ≡ of.place
          → IsNodeClause nodes literals clause
      by position within same =
          let found = whole_body (job c) (certain c.written) root (near_in c root) (slice_index (near_in c root) position)
          (body_at nodes position) (is.bodies position within)
          (subst (λ k. in_cone (job c) (certain c.written) root k ≡ true) (sym same) of.inside)
          (subst (λ k. is_carried (class_of (job c) (certain c.written) k) ≡ false) (sym same) of.free) in
          record {
            position = position;
            arguments = found.0;
            values = found.1;
            within = within;
            body = found.2;
            of_table = table_clause c root nodes is literals are position within found.0 found.1 found.3 of.bit
                of.chosen of.bits clause
                (subst (λ k. IsChoice (argument_places (job c) (certain c.written) k)
                (whole_table (job c) (certain c.written) k) of.chosen of.bits of.bit) (sym same) of.choice)
                (subst (λ k. IsClause (turn_literal (job c) (certain c.written) root) k of.chosen of.bits of.bit clause)
                (sym same) of.is_clause);
          }

  pub turn_denial_same : (value : Bool) → denial_of literals value ≡ turn_denial (job c) (certain c.written) root value
  turn_denial_same value =
      let all = near_count c root nodes is in
      let some = is.are_nodes.some in
      let last : slice_index (near_in c root) (length (near_in c root) - 1) ≡ root =
      last_place (is_near (job c) (certain c.written) root) root
      (or_left (in_cone (job c) (certain c.written) root root) (is_boundary (job c) (certain c.written) root root)
      (cone_self (job c) (near_fits c root nodes is) (certain c.written) root is.reach.within)) in
      let position : length literals - 1 ≡ length (near_in c root) - 1 =
      (let long = are.long in omega (arith, long, all)) in
      let bit = not value in
      ap (λ k. says (literal_at literals k) bit ∷ []) position
      ∙ ap (λ l. l ∷ []) (sym (turn_node_literal c root nodes is literals are (length (near_in c root) - 1) bit
      (omega (arith, all, some))))
      ∙ ap (λ k. turn_literal (job c) (certain c.written) root k bit ∷ []) last

  -- So the clauses of the nodes are those of the cone.
  pub whole_made : (clauses : List (List ℤ)) → AreNodeClauses nodes literals clauses
      → AreWholeClauses (job c) (certain c.written) root clauses
  whole_made clauses made = record {
    each = λ clause at. node_whole clause (made.each clause at);
    all = λ clause of. made.all clause (whole_node clause of);
    once = made.once;
  }
