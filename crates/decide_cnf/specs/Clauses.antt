-- Clauses over nodes: those of the minimal choices of their tables.
use Rattle.std.specs.Prelude.{◌≡◌, ◌≢◌, ℕ, ◌-◌, ◌<◌, ◌⊎◌, Bool, List, [], ◌∷◌, ◌++◌, length, not, slice_index, ℤ}
use Rattle.std.specs.Prelude.{Contains}
use Rattle.std.specs.List.{AllPairs}
use Rattle.design_cell.specs.declared.value.Value.{Value}
use Rattle.law_model.specs.Node.{ruled, table_of, upto}
use Rattle.law_model.specs.Query.{IsChoice, IsClause}
use Rattle.sat_proof.specs.Log.{Fit}
use Rattle.decide_nodes.specs.declared.node.Node.{Node}
use Rattle.decide_nodes.specs.declared.node.NodeBody.{NodeBody as Body}
use Rattle.decide_nodes.specs.declared.node.NodeBody.TheVariants.{Carried, Rule}
use Rattle.decide_nodes.specs.Nodes.{body_at}
use Rattle.decide_cnf.specs.Literals.{literal_at, says, variables_of}

-- What is said of the arguments of a node, by their numbers, and of the node itself, by the number behind them.
abbrev pub node_says : List ℤ → List ℕ → ℕ → ℕ → Bool → ℤ
node_says literals arguments position k bit =
    says (literal_at literals (slice_index (arguments ++ position ∷ []) k)) bit

-- A clause of a node with a table: that of a minimal choice of bits for its arguments.
pub record IsTableClause (literals : List ℤ) (arguments : List ℕ) (values : List Value) (position : ℕ)
    (clause : List ℤ) : Type 0 where
  pub bit : Bool
  pub chosen : ℕ → Bool
  pub bits : ℕ → Bool
  pub choice : IsChoice (upto (length arguments)) (table_of values (length arguments)) chosen bits bit
  pub is_clause : IsClause (node_says literals arguments position) (length arguments) chosen bits bit clause

-- A clause of a node with a body: a carried one has none.
abbrev pub IsBodyClause : List ℤ → ℕ → Body → List ℤ → Type 0
IsBodyClause literals position (Carried node inverted) clause = ⊥
IsBodyClause literals position (Rule arguments values) clause = IsTableClause literals arguments values position clause

-- A clause of some node.
pub record IsNodeClause (nodes : List Node) (literals : List ℤ) (clause : List ℤ) : Type 0 where
  pub position : ℕ
  pub arguments : List ℕ
  pub values : List Value
  pub within : position < length nodes
  pub body : body_at nodes position ≡ ruled arguments values
  pub of_table : IsTableClause literals arguments values position clause

-- The denial of a bit of the last node.
abbrev pub denial_of : List ℤ → Bool → List ℤ
denial_of literals base = says (literal_at literals (length literals - 1)) (not base) ∷ []

-- The clauses of the nodes and the denial: these, and all of them.
pub record AreQueryClauses (nodes : List Node) (literals : List ℤ) (base : Bool) (query : List (List ℤ)) : Type 0 where
  pub each : (clause : List ℤ) → Contains query clause
      → IsNodeClause nodes literals clause ⊎ (clause ≡ denial_of literals base)
  pub of_nodes : (clause : List ℤ) → IsNodeClause nodes literals clause → Contains query clause
  pub denial : Contains query (denial_of literals base)

-- Lists are these clauses, each once, and no variable of them is over the number of the nodes' variables.
pub record AreMade (nodes : List Node) (literals : List ℤ) (base : Bool) (clauses : List (List ℤ)) : Type 0 where
  pub of_query : AreQueryClauses nodes literals base clauses
  pub once : AllPairs (λ a b. a ≢ b) clauses
  pub fit : Fit (variables_of nodes) clauses

-- Lists are the clauses of the nodes alone, each once, and no variable of them is over the number of the nodes'
-- variables.
pub record AreNodeClauses (nodes : List Node) (literals : List ℤ) (clauses : List (List ℤ)) : Type 0 where
  pub each : (clause : List ℤ) → Contains clauses clause → IsNodeClause nodes literals clause
  pub all : (clause : List ℤ) → IsNodeClause nodes literals clause → Contains clauses clause
  pub once : AllPairs (λ a b. a ≢ b) clauses
  pub fit : Fit (variables_of nodes) clauses
