-- The clauses of nodes, node after node, and the query that they are.
use Rattle.std.proofs.Common.{◌≡◌, ◌≢◌, ℕ, zero, suc, ◌+◌, ◌-◌, ◌<◌, ◌≤◌, ◌^◌, not, Bool, true, false, List, [], ◌∷◌, ◌++◌, length, refl, sym, ap, arith, subst, inl, inr, ⊎_elim, Contains, slice_index, slice_index_or}
use Rattle.std.specs.Prelude.{ℤ, pos, negsuc, nat_abs}
use Rattle.std.specs.List.{All}
use Rattle.std.proofs.Math.ListN.{get_or-append}
use Rattle.std.proofs.Math.Seq.{get_or-append_seam}
use Rattle.std.proofs.lemmas.Bool.{cases_eq}
use Rattle.std.proofs.lemmas.List.{get_or_default}
use Rattle.std.proofs.lemmas.List.Elements.{All-contains, Contains-append_left, Contains-get_or, Contains-push, Contains-push_cases}
use Rattle.design_cell.specs.declared.value.Value.{Value}
use Rattle.law_model.specs.Node.{ruled}
use Rattle.law_model.proofs.PlacesWhere.{in_picked}
use Rattle.sat_proof.specs.Assignment.{HasNoZero}
use Rattle.sat_proof.specs.Log.{Fit}
use Rattle.sat_proof.proofs.ClosedSets.{all_from}
use Rattle.decide_nodes.specs.declared.node.Node.{Node}
use Rattle.decide_nodes.specs.declared.node.NodeBody.{NodeBody as Body}
use Rattle.decide_nodes.specs.declared.node.NodeBody.TheVariants.{Carried, Rule}
use Rattle.decide_nodes.specs.Nodes.{AreNodes, IsNodeTable, StandsAt, body_at, body_of, node_at}
use Rattle.decide_cnf.specs.Clauses.{AreNodeClauses, AreQueryClauses, IsBodyClause, IsNodeClause, IsTableClause, denial_of, node_says}
use Rattle.decide_cnf.specs.Growth.{AreOnce, IsEarlyClause, IsGrown}
use Rattle.decide_cnf.specs.Literals.{AreLiterals, IsLiteral, literal_at, says, variables_of}
use Rattle.decide_cnf.proofs.NodeLiterals.{ruled_few}
use Rattle.decide_cnf.proofs.GrownLists.{grown_same, grown_then}
use Rattle.decide_cnf.proofs.QueryClauses.{get_all}

pub early_none : (nodes : List Node) (literals : List ℤ) (a : List (List ℤ))
    → IsGrown (IsEarlyClause nodes literals 0) a a
early_none nodes literals a = grown_same (IsEarlyClause nodes literals 0) a
    (λ clause is. (let less = is.early in omega (arith, less)))

body_node : (nodes : List Node) (literals : List ℤ) (i : ℕ) → i < length nodes → (body : Body)
    → (node_at nodes i).body ≡ body → (clause : List ℤ) → IsBodyClause literals i body clause
    → IsEarlyClause nodes literals (i + 1) clause
body_node nodes literals i less (Carried node inverted) same clause is = absurd is
body_node nodes literals i less (Rule arguments values) same clause is = record {
  of_node = record {
    position = i;
    arguments = arguments;
    values = values;
    within = less;
    body = ap body_of same;
    of_table = is;
  };
  early = omega arith;
}

node_body : (literals : List ℤ) (i : ℕ) (body : Body) (arguments : List ℕ) (values : List Value) (clause : List ℤ)
    → body_of body ≡ ruled arguments values → IsTableClause literals arguments values i clause
    → IsBodyClause literals i body clause
node_body literals i (Carried node inverted) arguments values clause same is = cc
node_body literals i (Rule others table) arguments values clause same is =
    let names : others ≡ arguments = cc in
    let entries : table ≡ values = cc in
    subst (λ xs. IsTableClause literals xs table i clause) (sym names)
    (subst (λ vs. IsTableClause literals arguments vs i clause) (sym entries) is)

pub early_more : (nodes : List Node) (literals : List ℤ) (i : ℕ) (a b c : List (List ℤ)) → i < length nodes
    → IsGrown (IsEarlyClause nodes literals i) a b → IsGrown (IsBodyClause literals i (node_at nodes i).body) b c
    → IsGrown (IsEarlyClause nodes literals (i + 1)) a c
early_more nodes literals i a b c less first second =
    grown_then (IsEarlyClause nodes literals i) (IsBodyClause literals i (node_at nodes i).body)
    (IsEarlyClause nodes literals (i + 1)) a b c first second
    (λ clause is. record { of_node = is.of_node; early = (let low = is.early in omega (arith, low)) })
    (body_node nodes literals i less (node_at nodes i).body refl)
    (λ clause is. ⊎_elim
    (λ (here : is.of_node.position ≡ i). inr (node_body literals i (node_at nodes i).body is.of_node.arguments
    is.of_node.values clause
    (subst (λ p. body_at nodes p ≡ ruled is.of_node.arguments is.of_node.values) here is.of_node.body)
    (subst (λ p. IsTableClause literals is.of_node.arguments is.of_node.values p clause) here is.of_node.of_table)))
    (λ (other : is.of_node.position ≢ i). inl (record {
      of_node = is.of_node;
      early = (let low = is.early in omega (arith, low, other));
    })) (cases_eq is.of_node.position i))

pub early_all : (nodes : List Node) (literals : List ℤ) (n : ℕ) (a b : List (List ℤ)) → length nodes ≤ n
    → IsGrown (IsEarlyClause nodes literals n) a b → IsGrown (IsNodeClause nodes literals) a b
early_all nodes literals n a b all grown = record {
  kept = grown.kept;
  added = λ clause is. grown.added clause (record {
    of_node = is;
    early = (let less = is.within in omega (arith, less, all));
  });
  each = λ clause at. ⊎_elim (λ (old : Contains a clause). inl old)
      (λ (is : IsEarlyClause nodes literals n clause). inr is.of_node) (grown.each clause at);
}

-- The literals of clauses.
says_literal : (variables : ℕ) (l : ℤ) (bit : Bool) → IsLiteral variables l → IsLiteral variables (says l bit)
says_literal variables l true is = is
says_literal variables (pos zero) false is = (let some = is.some in absurd (omega (arith, some)))
says_literal variables (pos (suc n)) false is = record { some = is.some; few = is.few }
says_literal variables (negsuc n) false is = record { some = is.some; few = is.few }

table_of_body : (position : ℕ) (body : Body) (arguments : List ℕ) (values : List Value) → StandsAt position body
    → body_of body ≡ ruled arguments values → IsNodeTable position arguments values
table_of_body position (Carried node inverted) arguments values stands same = cc
table_of_body position (Rule others table) arguments values stands same =
    let names : others ≡ arguments = cc in
    let entries : table ≡ values = cc in
    subst (λ xs. IsNodeTable position xs values) names (subst (λ vs. IsNodeTable position others vs) entries stands)

only_one : (l x : ℤ) → Contains (x ∷ []) l → l ≡ x
only_one l x (zero, less, is) = sym is
only_one l x (suc k, less, is) = absurd (omega arith)

module _ (nodes : List Node) (literals : List ℤ) (are_nodes : AreNodes nodes) (are : AreLiterals nodes literals) where
  -- There are few variables.
  pub variables_few : variables_of nodes ≤ 2 ^ 27
  variables_few = let few = ruled_few nodes in let all = are_nodes.few in omega (arith, few, all)

  pub all_literals : All (IsLiteral (2 ^ 27)) literals
  all_literals k d less =
      let long = are.long in
      let is = are.fit k (omega (arith, less, long)) in
      subst (IsLiteral (2 ^ 27)) (get_or_default literals k (pos 0) d less) (record {
        some = is.some;
        few = (let low = is.few in let few = variables_few in omega (arith, low, few));
      })

  clause_literal : (clause : List ℤ) → IsNodeClause nodes literals clause → (l : ℤ) → Contains clause l
      → IsLiteral (variables_of nodes) l
  clause_literal clause is l at = ⊎_elim
      (λ (own : l ≡ node_says literals is.arguments is.position (length is.arguments) is.of_table.bit).
      subst (IsLiteral (variables_of nodes)) (sym own)
      (says_literal (variables_of nodes) _ is.of_table.bit (at_node (length is.arguments) (is.position)
      (get_or-append_seam is.arguments is.position [] 0) is.within)))
      (λ (other : (k : ℕ) × (is.of_table.chosen k ≡ true)
      × (l ≡ node_says literals is.arguments is.position k (not (is.of_table.bits k)))).
      (let low : other.0 < length is.arguments =
      (in_picked (λ i. true) (length is.arguments) other.0
      (is.of_table.choice.among_arguments other.0 other.1)).0 in
      let before : slice_index is.arguments other.0 < is.position =
      get_all (λ k. k < is.position) is.arguments other.0 table.before low in
      let within = is.within in
      subst (IsLiteral (variables_of nodes)) (sym other.2)
      (says_literal (variables_of nodes) _ (not (is.of_table.bits other.0))
      (at_node other.0 (slice_index is.arguments other.0)
      (get_or-append is.arguments (is.position ∷ []) 0 other.0 low) (omega (arith, before, within))))))
      (is.of_table.is_clause.no_other l at)
    where
      table : IsNodeTable is.position is.arguments is.values
      table = table_of_body is.position (node_at nodes is.position).body is.arguments is.values
          (are_nodes.each is.position is.within) is.body

      at_node : (k node : ℕ) → slice_index (is.arguments ++ is.position ∷ []) k ≡ node → node < length nodes
          → IsLiteral (variables_of nodes) (literal_at literals (slice_index (is.arguments ++ is.position ∷ []) k))
      at_node k node same less = subst (λ p. IsLiteral (variables_of nodes) (literal_at literals p)) (sym same)
          (are.fit node less)

  denial_literal : (base : Bool) (l : ℤ) → Contains (denial_of literals base) l → IsLiteral (variables_of nodes) l
  denial_literal base l at =
      let long = are.long in
      let some = are_nodes.some in
      subst (IsLiteral (variables_of nodes)) (sym (only_one l _ at))
      (says_literal (variables_of nodes) (literal_at literals (length literals - 1)) (not base)
      (are.fit (length literals - 1) (omega (arith, long, some))))

  -- All clauses of the list have literals of the variables.
  pub list_literal : (lists : List (List ℤ)) (base : Bool) → IsGrown (IsNodeClause nodes literals) [] lists
      → (clause : List ℤ) → Contains (lists ++ denial_of literals base ∷ []) clause → (l : ℤ) → Contains clause l
      → IsLiteral (variables_of nodes) l
  list_literal lists base grown clause at l inside = ⊎_elim
      (λ (front : Contains lists clause). ⊎_elim
      (λ (none : Contains [] clause). absurd (let less = none.1 in omega (arith, less)))
      (λ (node : IsNodeClause nodes literals clause). clause_literal clause node l inside) (grown.each clause front))
      (λ (same : denial_of literals base ≡ clause). denial_literal base l (subst (λ c. Contains c l) (sym same) inside))
      (Contains-push_cases lists (denial_of literals base) clause at)

  some_literal : (variables : ℕ) (l : ℤ) → IsLiteral variables l → l ≢ pos 0
  some_literal variables l is same = let some = is.some in let e = ap nat_abs same in omega (arith, some, e)

  pub lists_no_zero : (lists : List (List ℤ)) (base : Bool) → IsGrown (IsNodeClause nodes literals) [] lists
      → All HasNoZero (lists ++ denial_of literals base ∷ [])
  lists_no_zero lists base grown k d less i e within =
      some_literal (variables_of nodes) (slice_index_or clause i e)
      (list_literal lists base grown clause (Contains-get_or (lists ++ denial_of literals base ∷ []) k d less)
      (slice_index_or clause i e) (Contains-get_or clause i e within))
    where
      clause : List ℤ
      clause = slice_index_or (lists ++ denial_of literals base ∷ []) k d

  pub clauses_fit : (lists clauses : List (List ℤ)) (base : Bool) → IsGrown (IsNodeClause nodes literals) [] lists
      → AreOnce (lists ++ denial_of literals base ∷ []) clauses → Fit (variables_of nodes) clauses
  clauses_fit lists clauses base grown once k d less i e within =
      (list_literal lists base grown clause (once.each clause (Contains-get_or clauses k d less))
      (slice_index_or clause i e) (Contains-get_or clause i e within)).few
    where
      clause : List ℤ
      clause = slice_index_or clauses k d

pub query_clauses : (nodes : List Node) (literals : List ℤ) (lists clauses : List (List ℤ)) (base : Bool)
    → IsGrown (IsNodeClause nodes literals) [] lists → AreOnce (lists ++ denial_of literals base ∷ []) clauses
    → AreQueryClauses nodes literals base clauses
query_clauses nodes literals lists clauses base grown once = record {
  each = λ clause at. ⊎_elim (λ (front : Contains lists clause). ⊎_elim
      (λ (none : Contains [] clause). absurd (let less = none.1 in omega (arith, less)))
      (λ (node : IsNodeClause nodes literals clause). inl node) (grown.each clause front))
      (λ (same : denial_of literals base ≡ clause). inr (sym same))
      (Contains-push_cases lists (denial_of literals base) clause (once.each clause at));
  of_nodes = λ clause is. once.all clause
      (Contains-append_left lists (denial_of literals base ∷ []) clause (grown.added clause is));
  denial = once.all (denial_of literals base) (Contains-push lists (denial_of literals base));
}

-- The clauses of the nodes alone.
module _ (nodes : List Node) (literals : List ℤ) (are_nodes : AreNodes nodes) (are : AreLiterals nodes literals)
    (lists : List (List ℤ)) (grown : IsGrown (IsNodeClause nodes literals) [] lists) where
  pub nodes_no_zero : All HasNoZero lists
  nodes_no_zero = all_from HasNoZero lists (λ clause at.
      All-contains HasNoZero (lists ++ denial_of literals false ∷ []) clause
      (lists_no_zero nodes literals are_nodes are lists false grown)
      (Contains-append_left lists (denial_of literals false ∷ []) clause at))

  node_of : (clause : List ℤ) → Contains lists clause → IsNodeClause nodes literals clause
  node_of clause at = ⊎_elim (λ (none : Contains [] clause). absurd (let less = none.1 in omega (arith, less)))
      (λ (node : IsNodeClause nodes literals clause). node) (grown.each clause at)

  pub node_clauses_made : (clauses : List (List ℤ)) → AreOnce lists clauses → AreNodeClauses nodes literals clauses
  node_clauses_made clauses once = record {
    each = λ clause at. node_of clause (once.each clause at);
    all = λ clause is. once.all clause (grown.added clause is);
    once = once.once;
    fit = all_from (λ c. All (λ l. nat_abs l ≤ variables_of nodes) c) clauses (λ clause at.
        all_from (λ l. nat_abs l ≤ variables_of nodes) clause (λ l inside.
        (clause_literal nodes literals are_nodes are clause (node_of clause (once.each clause at)) l inside).few));
  }
