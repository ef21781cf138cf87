-- The clauses over the nodes of a cone are those of its query.
use Rattle.std.proofs.Common.{◌≡◌, ◌≢◌, ℕ, zero, suc, ◌+◌, ◌-◌, ◌<◌, ◌&&◌, not, Bool, true, false, List, [], ◌∷◌, ◌++◌, length, refl, sym, ap, ◌∙◌, arith, subst, inl, inr, ⊎_elim, Contains, slice_index}
use Rattle.std.specs.Prelude.{ℤ}
use Rattle.std.proofs.Math.ListN.{get_or-append}
use Rattle.std.proofs.Math.Seq.{get_or-append_seam}
use Rattle.std.proofs.lemmas.Bool.{and_from, and_parts}
use Rattle.std.specs.List.{AllByRecursion, AllPairs}
use Rattle.std.specs.List.Sorted.{IsStrictlyIncreasing}
use Rattle.design_cell.specs.declared.value.Value.{Value}
use Rattle.design_circuit.specs.Job.{Job}
use Rattle.design_circuit.specs.Order.{position_of}
use Rattle.design_circuit.specs.Waveform.{certain}
use Rattle.law_model.specs.Class.{class_of, flipped}
use Rattle.law_model.specs.Cone.{essentials, is_carried, is_essential, table}
use Rattle.law_model.specs.Node.{NodeBody, carried, ruled, table_of, upto}
use Rattle.law_model.specs.Places.{among}
use Rattle.law_model.specs.Query.{IsChoice, IsClause, IsConeClause, IsQuery, denial, literal, signed, variables}
use Rattle.law_model.specs.Root.{Root, root_of}
use Rattle.law_model.proofs.ArgumentPositions.{Matches, choice_matched}
use Rattle.law_model.proofs.Cones.{cone_self, cone_within}
use Rattle.law_model.proofs.ConeModels.{found_at, found_within}
use Rattle.law_model.proofs.PlacesWhere.{contains_among, in_picked, picked_in, picked_rises}
use Rattle.sat_proof.specs.declared.clause.Cnf.{Cnf}
use Rattle.wave_proved.specs.Contents.{Contents, job}
use Rattle.decide_nodes.specs.declared.node.Node.{Node}
use Rattle.decide_nodes.specs.Nodes.{body_at, nothing, root_bit}
use Rattle.decide_nodes.specs.Traced.{IsBodyOver, IsConeOf, IsRuledOver, turned_root}
use Rattle.decide_nodes.proofs.ConeBits.{count, fits, picked, spots}
use Rattle.decide_nodes.proofs.ConeLaws.{base_law}
use Rattle.decide_nodes.proofs.NodeSources.{flipped_back, turned_table}
use Rattle.decide_nodes.proofs.ConeBits.{last_place}
use Rattle.decide_cnf.specs.Clauses.{AreQueryClauses, IsNodeClause, IsTableClause, denial_of, node_says}
use Rattle.decide_cnf.specs.Literals.{AreLiterals, literal_at, says}
use Rattle.decide_cnf.proofs.ConeLiterals.{node_literal}
use Rattle.decide_cnf.proofs.NameMatches.{name_matches, number_matches}

-- A clause of a choice, where the arguments have other names and their bits are said in another way.
pub clause_matched : (a b : List ℕ) (table other : (ℕ → Bool) → Value) (m : Matches a b table other)
    (first second : ℕ → Bool → ℤ) (place node : ℕ) (chosen bits others : ℕ → Bool) (bit : Bool) (clause : List ℤ)
    → ((k : ℕ) → among a k ≡ true → second (m.from k) (not (others (m.from k))) ≡ first k (not (bits k)))
    → ((x : Bool) → second node x ≡ first place x) → ((k : ℕ) → chosen k ≡ true → among a k ≡ true)
    → IsClause first place chosen bits bit clause
    → IsClause second node (λ k. among b k && chosen (m.to k)) others bit clause
clause_matched a b table other m first second place node chosen bits others bit clause same own inside is = record {
  ascends = is.ascends;
  denies = λ k taken. (let parts = and_parts (among b k) (chosen (m.to k)) taken in
      subst (Contains clause) (sym (ap (λ i. second i (not (others i))) (sym (m.forth k parts.0))
      ∙ same (m.to k) (m.to_in k parts.0))) (is.denies (m.to k) parts.1));
  gives = subst (Contains clause) (sym (own bit)) is.gives;
  no_other = λ l at. ⊎_elim (λ (e : l ≡ first place bit). inl (e ∙ sym (own bit)))
      (λ (e : (k : ℕ) × (chosen k ≡ true) × (l ≡ first k (not (bits k)))).
      (let k_in = inside e.0 e.1 in inr (
        m.from e.0,
        and_from (among b (m.from e.0)) _ (m.from_in e.0 k_in) (ap chosen (m.back e.0 k_in) ∙ e.1),
        e.2 ∙ sym (same e.0 k_in),
      ))) (is.no_other l at);
}

-- A choice where some arguments are inverted.
choice_turned : (names : List ℕ) (table other : (ℕ → Bool) → Value) (turns : ℕ → Bool)
    → ((f : ℕ → Bool) → table f ≡ other (λ k. flipped (turns k) (f k)))
    → ((f : ℕ → Bool) → other f ≡ table (λ k. flipped (turns k) (f k))) → (chosen bits : ℕ → Bool) (bit : Bool)
    → IsChoice names table chosen bits bit → IsChoice names other chosen (λ k. flipped (turns k) (bits k)) bit
choice_turned names table other turns there here chosen bits bit is = record {
  among_arguments = is.among_arguments;
  forces = λ others agree. here others ∙ is.forces (λ k. flipped (turns k) (others k))
      (λ k taken. ap (flipped (turns k)) (agree k taken) ∙ flipped_back (turns k) (bits k));
  minimal = λ k taken forced. is.minimal k taken (λ others agree. there others
      ∙ forced (λ i. flipped (turns i) (others i)) (λ i kept. ap (flipped (turns i)) (agree i kept)));
}

not_turned : (turned bit : Bool) → not (flipped turned bit) ≡ flipped turned (not bit)
not_turned false bit = refl
not_turned true bit = refl

turned_not : (turned bit : Bool) → flipped turned (not (flipped turned bit)) ≡ not bit
turned_not turned bit = ap (flipped turned) (not_turned turned bit) ∙ flipped_back turned (not bit)

both_turned : (turned inverted x : Bool) → flipped (flipped turned inverted) (flipped turned x) ≡ flipped inverted x
both_turned false inverted x = refl
both_turned true false false = refl
both_turned true false true = refl
both_turned true true x = refl

-- A literal of a place whose root is that of another, turned.
turned_literal : (j : Job) (cert : ℕ → Value) (root place other : ℕ) (turned x : Bool)
    → root_of j cert place ≡ turned_root turned (root_of j cert other)
    → literal j cert root place (flipped turned x) ≡ literal j cert root other x
unfolding literal
turned_literal j cert root place other turned x is =
    ap (λ (r : Root). signed (position_of (variables j cert root) r.place) (flipped r.inverted (flipped turned x))) is
    ∙ ap (signed (position_of (variables j cert root) (root_of j cert other).place))
    (both_turned turned (root_of j cert other).inverted x)

pub get_all : (P : ℕ → Type 0) (xs : List ℕ) (i : ℕ) → AllByRecursion P xs → i < length xs → P (slice_index xs i)
get_all P [] i all less = absurd (omega arith)
get_all P (x ∷ xs) zero all less = all.0
get_all P (x ∷ xs) (suc i) all less = get_all P xs i all.1 (omega arith)

module _ (c : Contents) (root : ℕ) (nodes : List Node) (is : IsConeOf c root nodes) (literals : List ℤ)
    (are : AreLiterals nodes literals) (position : ℕ) (less : position < length nodes) (arguments : List ℕ)
    (values : List Value)
    (of : IsRuledOver (job c) (certain c.written) (spots c root nodes is) (slice_index (spots c root nodes is) position) arguments values)
  where
    abbrev names : List ℕ
    names = essentials (job c) (certain c.written) (slice_index (spots c root nodes is) position)

    abbrev table_here : (ℕ → Bool) → Value
    table_here = table (job c) (certain c.written) (slice_index (spots c root nodes is) position)

    abbrev place_says : ℕ → Bool → ℤ
    place_says = literal (job c) (certain c.written) root

    abbrev size : ℕ
    size = length (essentials (job c) (certain c.written) (slice_index (spots c root nodes is) position))

    abbrev turned : (ℕ → Bool) → Value
    turned bits = table (job c) (certain c.written) (slice_index (spots c root nodes is) position)
        (λ k. flipped (of.turns k) (bits k))

    names_long : length (essentials (job c) (certain c.written) (slice_index (spots c root nodes is) position))
        ≡ length arguments
    names_long = sym of.long

    names_rise : IsStrictlyIncreasing
        (essentials (job c) (certain c.written) (slice_index (spots c root nodes is) position))
    unfolding essentials
    names_rise = picked_rises (is_essential (job c) (certain c.written) (slice_index (spots c root nodes is) position))
        (slice_index (spots c root nodes is) position)

    abbrev matches : Matches names (upto size) turned (table_of values size)
    matches = name_matches names values turned names_rise of.are_values

    abbrev back : Matches (upto size) names (table_of values size) turned
    back = number_matches names values turned names_rise of.are_values

    twice : (bits : ℕ → Bool) → table_here bits ≡ turned (λ k. flipped (of.turns k) (bits k))
    twice bits = sym (turned_table (job c) (certain c.written) (slice_index (spots c root nodes is) position) of.turns bits)

    -- An argument's literal, and the node's own.
    argument_says : (i : ℕ) (x : Bool) → i < length arguments → node_says literals arguments position i x
        ≡ place_says (slice_index names i) (flipped (of.turns (slice_index names i)) x)
    argument_says i x low =
        let all = count c root nodes is in
        let first : slice_index (arguments ++ position ∷ []) i ≡ slice_index arguments i =
        get_or-append arguments (position ∷ []) 0 i low in
        let within : slice_index arguments i < length nodes =
        (let less = get_all (λ k. k < length (spots c root nodes is)) arguments i of.within low in
        omega (arith, less, all)) in
        ap (λ k. says (literal_at literals k) x) first
        ∙ sym (node_literal c root nodes is literals are (slice_index arguments i) x within)
        ∙ sym (turned_literal (job c) (certain c.written) root (slice_index names i)
        (slice_index (spots c root nodes is) (slice_index arguments i)) (of.turns (slice_index names i)) x
        (of.roots i low))

    own_says : (x : Bool) → node_says literals arguments position size x
        ≡ place_says (slice_index (spots c root nodes is) position) x
    own_says x =
        ap (λ n. says (literal_at literals (slice_index (arguments ++ position ∷ []) n)) x) names_long
        ∙ ap (λ k. says (literal_at literals k) x) (get_or-append_seam arguments position [] 0)
        ∙ sym (node_literal c root nodes is literals are position x less)

    name_says : (bits : ℕ → Bool) (k : ℕ) → among names k ≡ true
        → node_says literals arguments position (position_of names k)
        (not (flipped (of.turns (slice_index names (position_of names k)))
        (bits (slice_index names (position_of names k))))) ≡ place_says k (not (bits k))
    name_says bits k at =
        let found = contains_among names k at in
        let long = names_long in
        let i : ℕ = position_of names k in
        argument_says i (not (flipped (of.turns (slice_index names i)) (bits (slice_index names i))))
        (let low = found_within names k found in omega (arith, low, long))
        ∙ ap (place_says (slice_index names i)) (turned_not (of.turns (slice_index names i)) (bits (slice_index names i)))
        ∙ ap (λ i. place_says i (not (bits i))) (found_at names k found)

    number_says : (bits : ℕ → Bool) (k : ℕ) → among (upto size) k ≡ true
        → place_says (slice_index names k)
        (not (flipped (of.turns (slice_index names k)) (bits (position_of names (slice_index names k)))))
        ≡ node_says literals arguments position k (not (bits k))
    number_says bits k at =
        let long = names_long in
        ap (λ i. place_says (slice_index names k) (not (flipped (of.turns (slice_index names k)) (bits i))))
        (matches.forth k at)
        ∙ ap (place_says (slice_index names k)) (not_turned (of.turns (slice_index names k)) (bits k))
        ∙ sym (argument_says k (not (bits k))
        (let low = (in_picked (λ i. true) size k at).0 in omega (arith, low, long)))

    -- The clauses of the place are those of the node's table.
    pub table_clause : (bit : Bool) (chosen bits : ℕ → Bool) (clause : List ℤ)
        → IsChoice names table_here chosen bits bit
        → IsClause place_says (slice_index (spots c root nodes is) position) chosen bits bit clause
        → IsTableClause literals arguments values position clause
    table_clause bit chosen bits clause choice is_clause = record {
      bit = bit;
      chosen = λ k. among (upto size) k && chosen (slice_index names k);
      bits = λ k. flipped (of.turns (slice_index names k)) (bits (slice_index names k));
      choice = subst (λ n. IsChoice (upto n) (table_of values n) (λ k. among (upto size) k && chosen
          (slice_index names k))
          (λ k. flipped (of.turns (slice_index names k)) (bits (slice_index names k))) bit) names_long
          (choice_matched names (upto size) turned (table_of values size) matches chosen
          (λ k. flipped (of.turns k) (bits k)) bit
          (choice_turned names table_here turned of.turns twice (λ f. refl) chosen bits bit choice));
      is_clause = subst (λ n. IsClause (node_says literals arguments position) n
          (λ k. among (upto size) k && chosen (slice_index names k))
          (λ k. flipped (of.turns (slice_index names k)) (bits (slice_index names k))) bit clause)
          names_long (clause_matched names (upto size) turned (table_of values size) matches place_says
          (node_says literals arguments position) (slice_index (spots c root nodes is) position) size chosen bits
          (λ k. flipped (of.turns (slice_index names k)) (bits (slice_index names k))) bit clause
          (name_says bits) own_says choice.among_arguments is_clause);
    }

    pub place_clause : (clause : List ℤ) → IsTableClause literals arguments values position clause
        → IsConeClause (job c) (certain c.written) root clause
    place_clause clause is_table = record {
      place = slice_index (spots c root nodes is) position;
      bit = is_table.bit;
      chosen = λ k. among names k && is_table.chosen (position_of names k);
      bits = λ k. flipped (of.turns k) (is_table.bits (position_of names k));
      inside = (picked c root nodes is position less).1;
      free = of.free;
      choice = choice_turned names turned table_here of.turns (λ f. refl) twice
          (λ k. among names k && is_table.chosen (position_of names k)) (λ k. is_table.bits (position_of names k))
          is_table.bit
          (choice_matched (upto size) names (table_of values size) turned back is_table.chosen is_table.bits
          is_table.bit choice_here);
      is_clause = clause_matched (upto size) names (table_of values size) turned back
          (node_says literals arguments position) place_says size (slice_index (spots c root nodes is) position)
          is_table.chosen is_table.bits (λ k. flipped (of.turns k) (is_table.bits (position_of names k))) is_table.bit
          clause (number_says is_table.bits) (λ x. sym (own_says x)) choice_here.among_arguments clause_here;
    }
      where
        choice_here : IsChoice (upto size) (table_of values size) is_table.chosen is_table.bits is_table.bit
        choice_here = subst (λ n. IsChoice (upto n) (table_of values n) is_table.chosen is_table.bits is_table.bit)
            (sym names_long) is_table.choice

        clause_here : IsClause (node_says literals arguments position) size is_table.chosen is_table.bits is_table.bit
            clause
        clause_here = subst (λ n. IsClause (node_says literals arguments position) n is_table.chosen is_table.bits
            is_table.bit clause) (sym names_long) is_table.is_clause

-- A place that isn't carried is a node with a table.
ruled_body : (j : Job) (cert : ℕ → Value) (places : List ℕ) (place : ℕ) (body : NodeBody)
    → IsBodyOver j cert places place body → is_carried (class_of j cert place) ≡ false
    → (arguments : List ℕ) × (values : List Value) × (body ≡ ruled arguments values)
    × IsRuledOver j cert places place arguments values
ruled_body j cert places place (carried node inverted) is free =
    let e : true ≡ false = sym (ap is_carried is.class) ∙ free in cc
ruled_body j cert places place (ruled arguments values) is free = (arguments, values, refl, is)

module _ (c : Contents) (root : ℕ) (nodes : List Node) (is : IsConeOf c root nodes) (literals : List ℤ)
    (are : AreLiterals nodes literals) where
  pub node_cone : (clause : List ℤ) → IsNodeClause nodes literals clause
      → IsConeClause (job c) (certain c.written) root clause
  node_cone clause of = place_clause c root nodes is literals are of.position of.within of.arguments of.values
      (subst (IsBodyOver (job c) (certain c.written) (spots c root nodes is) (slice_index (spots c root nodes is) of.position)) of.body
      (is.bodies of.position of.within)) clause of.of_table

  pub cone_node : (clause : List ℤ) → IsConeClause (job c) (certain c.written) root clause
      → IsNodeClause nodes literals clause
  cone_node clause of =
      let places : List ℕ = spots c root nodes is in
      let at : among places of.place ≡ true = picked_in is.kept (root + 1) of.place
      (let low = cone_within (job c) (fits c root nodes is) (certain c.written) root of.place is.reach.within of.inside in
      omega (arith, low)) (is.variables of.place (and_from _ _ of.inside (ap not of.free))) in
      let found = contains_among places of.place at in
      let position : ℕ = position_of places of.place in
      let within : position < length nodes = (let low = found_within places of.place found in
      let all = count c root nodes is in omega (arith, low, all)) in
      let same : slice_index places position ≡ of.place = found_at places of.place found in
      by position within same
    where
      by : (position : ℕ) → position < length nodes → slice_index (spots c root nodes is) position ≡ of.place
          → IsNodeClause nodes literals clause
      by position within same =
          let found = ruled_body (job c) (certain c.written) (spots c root nodes is) (slice_index (spots c root nodes is) position)
          (body_at nodes position) (is.bodies position within)
          (subst (λ k. is_carried (class_of (job c) (certain c.written) k) ≡ false) (sym same) of.free) in
          record {
            position = position;
            arguments = found.0;
            values = found.1;
            within = within;
            body = found.2;
            of_table = table_clause c root nodes is literals are position within found.0 found.1 found.3 of.bit
                of.chosen of.bits clause
                (subst (λ k. IsChoice (essentials (job c) (certain c.written) k) (table (job c) (certain c.written) k)
                of.chosen of.bits of.bit) (sym same) of.choice)
                (subst (λ k. IsClause (literal (job c) (certain c.written) root) k of.chosen of.bits of.bit clause)
                (sym same) of.is_clause);
          }

  pub denial_same : denial_of literals (root_bit nothing nodes) ≡ denial (job c) (certain c.written) root
  denial_same =
      let all = count c root nodes is in
      let some = is.are_nodes.some in
      let last : slice_index (spots c root nodes is) (length (spots c root nodes is) - 1) ≡ root =
      last_place is.kept root (is.variables root
      (and_from _ _ (cone_self (job c) (fits c root nodes is) (certain c.written) root is.reach.within)
      (ap not is.free))) in
      let position : length literals - 1 ≡ length (spots c root nodes is) - 1 =
      (let long = are.long in omega (arith, long, all)) in
      let bit = not (root_bit nothing nodes) in
      ap (λ k. says (literal_at literals k) bit ∷ []) position
      ∙ ap (λ l. l ∷ []) (sym (node_literal c root nodes is literals are (length (spots c root nodes is) - 1) bit
      (omega (arith, all, some))))
      ∙ ap (λ k. literal (job c) (certain c.written) root k bit ∷ []) last
      ∙ ap (λ b. literal (job c) (certain c.written) root root (not b) ∷ []) (base_law c root nodes is)

  -- So the clauses of the nodes with the denial are the query.
  pub query_of_nodes : (query : Cnf) → AreQueryClauses nodes literals (root_bit nothing nodes) query.clauses
      → query.vars ≡ length (variables (job c) (certain c.written) root) → AllPairs (λ a b. a ≢ b) query.clauses
      → IsQuery (job c) (certain c.written) root query
  query_of_nodes query of vars once = record {
    vars = vars;
    each = λ clause at. ⊎_elim (λ (node : IsNodeClause nodes literals clause). inl (node_cone clause node))
        (λ (e : clause ≡ denial_of literals (root_bit nothing nodes)). inr (e ∙ denial_same)) (of.each clause at);
    all = λ clause is_query. ⊎_elim
        (λ (cone : IsConeClause (job c) (certain c.written) root clause). of.of_nodes clause (cone_node clause cone))
        (λ (e : clause ≡ denial (job c) (certain c.written) root).
        subst (Contains query.clauses) (denial_same ∙ sym e) of.denial) is_query;
    once = once;
  }
