-- Cones whose nodes have the same bodies ask the same.
use Rattle.std.proofs.Common.{◌≡◌, ℕ, zero, suc, ◌+◌, ◌-◌, ◌<◌, ◌≤◌, not, Bool, true, false, List, [], ◌∷◌, ◌++◌, length, map, take, refl, sym, ap, ◌∙◌, arith, subst, inl, inr, ⊎_elim}
use Rattle.std.specs.Prelude.{ℤ, pos, negsuc, nat_abs, neg_ℤ}
use Rattle.std.specs.List.{take-map}
use Rattle.std.proofs.Math.Seq.{take-length}
use Rattle.std.proofs.lemmas.List.{length-map, length-take-le}
use Rattle.design_circuit.specs.Fits.{place_at}
use Rattle.design_circuit.specs.Waveform.{certain}
use Rattle.design_circuit.specs.World.{bit_at}
use Rattle.law_model.specs.Cone.{denied_value}
use Rattle.law_model.specs.Query.{IsConeClause, denial, variables}
use Rattle.sat_proof.specs.declared.clause.Cnf.{Cnf}
use Rattle.wave_proved.specs.Contents.{Contents, job}
use Rattle.decide_nodes.specs.declared.node.Node.{Node}
use Rattle.decide_nodes.specs.declared.node.NodeBody.{NodeBody as Body}
use Rattle.decide_nodes.specs.declared.node.NodeBody.TheVariants.{Carried, Rule}
use Rattle.decide_nodes.specs.Nodes.{AreNodes, StandsAt, body_of, is_source_body, is_source_node, no_node, node_at, node_bits, nothing, place_of_node, root_bit, sources_of}
use Rattle.decide_nodes.specs.Traced.{IsConeOf, sources_in}
use Rattle.decide_nodes.proofs.ConeLaws.{base_law, sources_law}
use Rattle.decide_cnf.specs.Clauses.{AreQueryClauses, IsNodeClause, denial_of}
use Rattle.decide_cnf.specs.Literals.{AreLiterals, IsLiteral, is_ruled_body, is_ruled_node, literal_at, literal_by, says, variables_of, variables_with}
use Rattle.decide_cnf.specs.Query.{IsQueryOf}
use Rattle.decide_cnf.specs.Same.{SameLaw}
use Rattle.decide_cnf.proofs.ConeLiterals.{passes_match, variables_counted}
use Rattle.decide_cnf.proofs.NodeLiterals.{nodes_more}
use Rattle.decide_cnf.proofs.QueryClauses.{cone_node, denial_same, node_cone, query_of_nodes}

abbrev own_body : Node → Body
own_body node = node.body

abbrev HaveSame : List Node → List Node → Type 0
HaveSame xs ys = map (λ (node : Node). node.body) xs ≡ map (λ (node : Node). node.body) ys

same_long : (xs ys : List Node) → HaveSame xs ys → length xs ≡ length ys
same_long xs ys same = sym (length-map xs own_body) ∙ ap length same ∙ length-map ys own_body

same_body : (xs ys : List Node) → HaveSame xs ys → (p : ℕ) → (node_at xs p).body ≡ (node_at ys p).body
same_body [] [] same p = refl
same_body [] (y ∷ ys) same p = cc
same_body (x ∷ xs) [] same p = cc
same_body (x ∷ xs) (y ∷ ys) same zero = cc
same_body (x ∷ xs) (y ∷ ys) same (suc p) = let rest : HaveSame xs ys = cc in same_body xs ys rest p

same_take : (p : ℕ) (xs ys : List Node) → HaveSame xs ys → HaveSame (take p xs) (take p ys)
same_take p xs ys same = sym (take-map own_body p xs) ∙ ap (take p) same ∙ take-map own_body p ys

-- So as many of them are variables, and as many are sources.
same_variables : (xs ys : List Node) → HaveSame xs ys → variables_of xs ≡ variables_of ys
same_variables xs ys same = passes_match is_ruled_node is_ruled_node no_node no_node xs ys (same_long xs ys same)
    (λ p less. ap is_ruled_body (same_body xs ys same p))

same_sources : (xs ys : List Node) → HaveSame xs ys → length (sources_of xs) ≡ length (sources_of ys)
same_sources xs ys same =
    length-map _ place_of_node
    ∙ passes_match is_source_node is_source_node no_node no_node xs ys (same_long xs ys same)
    (λ p less. ap is_source_body (same_body xs ys same p))
    ∙ sym (length-map _ place_of_node)

-- They have the same bits,
same_bits : (given : ℕ → Bool) (xs ys : List Node) → HaveSame xs ys → (n : ℕ)
    → node_bits given xs n ≡ node_bits given ys n
unfolding node_bits
same_bits given xs ys same zero = refl
same_bits given xs ys same (suc n) = rw (same_bits given xs ys same n, same_body xs ys same n) refl

same_root : (given : ℕ → Bool) (xs ys : List Node) → HaveSame xs ys → root_bit given xs ≡ root_bit given ys
same_root given xs ys same =
    ap (λ n. bit_at (node_bits given xs n) (n - 1)) (same_long xs ys same)
    ∙ ap (λ bits. bit_at bits (length ys - 1)) (same_bits given xs ys same (length ys))

-- the same literals,
same_literals : (xs ys : List Node) (literals : List ℤ) → HaveSame xs ys → AreLiterals xs literals
    → AreLiterals ys literals
same_literals xs ys literals same are =
    let long = same_long xs ys same in
    record {
      long = are.long ∙ long;
      each = λ p less. are.each p (omega (arith, less, long))
          ∙ ap (λ v. literal_by literals v (node_at xs p).body)
          (same_variables (take p xs) (take p ys) (same_take p xs ys same))
          ∙ ap (literal_by literals (variables_of (take p ys))) (same_body xs ys same p);
      fit = λ p less. subst (λ v. IsLiteral v (literal_at literals p)) (same_variables xs ys same)
          (are.fit p (omega (arith, less, long)));
    }

-- and the same clauses.
same_clause : (xs ys : List Node) (literals clause : List ℤ) → HaveSame xs ys → IsNodeClause xs literals clause
    → IsNodeClause ys literals clause
same_clause xs ys literals clause same of = record {
  position = of.position;
  arguments = of.arguments;
  values = of.values;
  within = (let long = same_long xs ys same in let less = of.within in omega (arith, less, long));
  body = ap body_of (sym (same_body xs ys same of.position)) ∙ of.body;
  of_table = of.of_table;
}

-- Nodes have literals.
negated : (z : ℤ) → nat_abs (neg_ℤ z) ≡ nat_abs z
negated (pos zero) = refl
negated (pos (suc n)) = refl
negated (negsuc n) = refl

said : (variables : ℕ) (literal : ℤ) (bit : Bool) → IsLiteral variables literal → IsLiteral variables (says literal bit)
said variables literal true is = is
said variables literal false is =
    let same = negated literal in
    let some = is.some in
    let few = is.few in
    record { some = omega (arith, same, some); few = omega (arith, same, few) }

literal_fits : (literals : List ℤ) (variables position : ℕ) (body : Body) → StandsAt position body
    → ((p : ℕ) → p < position → IsLiteral variables (literal_at literals p))
    → IsLiteral (variables_with variables body) (literal_by literals variables body)
literal_fits literals variables position (Carried node inverted) stands fit =
    said variables (literal_at literals node) (not inverted) (fit node stands)
literal_fits literals variables position (Rule arguments values) stands fit =
    record { some = omega arith; few = omega arith }

literals_upto : (nodes : List Node) → AreNodes nodes → (i : ℕ) → i ≤ length nodes
    → (literals : List ℤ) × AreLiterals (take i nodes) literals
literals_upto nodes are zero within = (
  [],
  record { long = refl; each = λ p less. absurd (omega (arith, less)); fit = λ p less. absurd (omega (arith, less)) },
)
literals_upto nodes are (suc i) within =
    let before = literals_upto nodes are i (omega (arith, within)) in
    let literals : List ℤ = before.0 in
    let body : Body = (node_at nodes i).body in
    let count : ℕ = variables_of (take i nodes) in
    let short = length-take-le i nodes (omega (arith, within)) in
    let more = nodes_more nodes i literals (literal_by literals count body) count (variables_with count body) are
    (omega (arith, within)) before.1 refl refl
    (literal_fits literals count i body (are.each i (omega (arith, within)))
    (λ p less. before.1.fit p (omega (arith, less, short)))) refl in (
      literals ++ literal_by literals count body ∷ [],
      subst (λ n. AreLiterals (take n nodes) (literals ++ literal_by literals count body ∷ [])) (sym (suc_is i)) more.0,
    )
  where
    suc_is : (n : ℕ) → suc n ≡ n + 1
    suc_is n = omega arith

literals_exist : (nodes : List Node) → AreNodes nodes → (literals : List ℤ) × AreLiterals nodes literals
literals_exist nodes are =
    let all = literals_upto nodes are (length nodes) (omega arith) in
    (all.0, subst (λ xs. AreLiterals xs all.0) (take-length nodes) all.1)

module _ (c : Contents) (place other : ℕ) (nodes others : List Node) (is : IsConeOf c place nodes)
    (also : IsConeOf c other others) (same : HaveSame nodes others) where
  same_denied : denied_value (job c) (certain c.written) other ≡ denied_value (job c) (certain c.written) place
  same_denied = sym (base_law c other others also) ∙ sym (same_root nothing nodes others same)
      ∙ base_law c place nodes is

  same_counted : length (variables (job c) (certain c.written) other)
      ≡ length (variables (job c) (certain c.written) place)
  same_counted = variables_counted c other others also ∙ sym (same_variables nodes others same)
      ∙ sym (variables_counted c place nodes is)

  sources_counted : length (sources_in c other) ≡ length (sources_in c place)
  sources_counted =
      sym (length-map (sources_in c other) (place_at (job c))) ∙ sym (ap length (sources_law c other others also))
      ∙ sym (same_sources nodes others same)
      ∙ ap length (sources_law c place nodes is) ∙ length-map (sources_in c place) (place_at (job c))

  module _ (query : Cnf) (asked : IsQueryOf c place query) (literals : List ℤ) (are : AreLiterals nodes literals) where
    own : AreLiterals others literals
    own = same_literals nodes others literals same are

    denial_moved : denial_of literals (root_bit nothing others) ≡ denial (job c) (certain c.written) place
    denial_moved = ap (denial_of literals) (sym (same_root nothing nodes others same))
        ∙ denial_same c place nodes is literals are

    clauses_moved : AreQueryClauses others literals (root_bit nothing others) query.clauses
    clauses_moved = record {
      each = λ clause at. ⊎_elim (λ (cone : IsConeClause (job c) (certain c.written) place clause).
          inl (same_clause nodes others literals clause same
          (cone_node c place nodes is literals are clause cone)))
          (λ (e : clause ≡ denial (job c) (certain c.written) place). inr (e ∙ sym denial_moved))
          (asked.each clause at);
      of_nodes = λ clause node. asked.all clause
          (inl (node_cone c place nodes is literals are clause
          (same_clause others nodes literals clause (sym same) node)));
      denial = asked.all (denial_of literals (root_bit nothing others)) (inr denial_moved);
    }

    query_moved : IsQueryOf c other query
    query_moved = query_of_nodes c other others also literals own query clauses_moved
        (asked.vars ∙ sym same_counted) asked.once

pub same_law : SameLaw
same_law c place other nodes others is also same =
    let literals = literals_exist nodes is.are_nodes in
    record {
      denied = same_denied c place other nodes others is also same;
      variables = same_counted c place other nodes others is also same;
      sources = sources_counted c place other nodes others is also same;
      query = λ query asked. query_moved c place other nodes others is also same query asked literals.0 literals.1;
    }
