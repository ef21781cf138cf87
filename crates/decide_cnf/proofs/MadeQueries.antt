-- What the lists that are made of a cone are: its query.
use Rattle.std.proofs.Common.{◌≡◌, ◌++◌, ◌∷◌, [], Bool, List, sym, ◌∙◌, subst}
use Rattle.std.specs.Prelude.{ℤ}
use Rattle.sat_proof.specs.declared.clause.Cnf.{Cnf}
use Rattle.decide_nodes.specs.declared.node.Node.{Node}
use Rattle.decide_nodes.specs.Nodes.{AreNodes, nothing, root_bit}
use Rattle.decide_cnf.specs.Clauses.{AreMade, AreQueryClauses, IsNodeClause, denial_of}
use Rattle.decide_cnf.specs.Growth.{AreOnce, IsGrown}
use Rattle.decide_cnf.specs.Literals.{AreLiterals, variables_of}
use Rattle.decide_cnf.specs.Query.{IsQueryOfNodes}
use Rattle.decide_cnf.proofs.ConeLiterals.{variables_counted}
use Rattle.decide_cnf.proofs.EarlyClauses.{clauses_fit, query_clauses}
use Rattle.decide_cnf.proofs.QueryClauses.{query_of_nodes}

-- The lists of the nodes with the denial of a bit, each once.
pub clauses_made : (nodes : List Node) (literals : List ℤ) (lists clauses : List (List ℤ)) (base : Bool) → AreNodes nodes
    → AreLiterals nodes literals → IsGrown (IsNodeClause nodes literals) [] lists
    → AreOnce (lists ++ denial_of literals base ∷ []) clauses → AreMade nodes literals base clauses
clauses_made nodes literals lists clauses base are_nodes are grown once = record {
  of_query = query_clauses nodes literals lists clauses base grown once;
  once = once.once;
  fit = clauses_fit nodes literals are_nodes are lists clauses base grown once;
}

-- A formula of these clauses over the variables of the nodes, where the bit is that of the last node.
pub query_made : (nodes given : List Node) → nodes ≡ given → (literals : List ℤ) (base : Bool) (query : Cnf)
    → AreLiterals nodes literals → AreMade nodes literals base query.clauses → base ≡ root_bit nothing nodes
    → query.vars ≡ variables_of nodes → IsQueryOfNodes given query
query_made nodes given same literals base query are made is_base counted =
    subst (λ ns. IsQueryOfNodes ns query) same (λ c root is. query_of_nodes c root nodes is literals are query
    (subst (λ b. AreQueryClauses nodes literals b query.clauses) is_base made.of_query)
    (counted ∙ sym (variables_counted c root nodes is)) made.once)
