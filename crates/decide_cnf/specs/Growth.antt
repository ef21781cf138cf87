-- Lists of clauses that grow, and lists in which each clause stands once.
use Rattle.std.specs.Prelude.{◌≢◌, ℕ, zero, suc, ◌<◌, ◌^◌, ◌⊎◌, Bool, List, [], ◌∷◌, ◌++◌, length, not, ℤ}
use Rattle.std.specs.Prelude.{if◌then◌else◌, Contains}
use Rattle.std.specs.List.{All, AllPairs}
use Rattle.design_cell.specs.declared.value.Value.{Value}
use Rattle.law_model.specs.Node.{table_of, upto}
use Rattle.law_model.specs.Query.{IsChoice, IsClause}
use Rattle.decide_choices.specs.declared.choice.Choice.{Choice}
use Rattle.decide_choices.specs.Choices.{bits_in, chosen_in}
use Rattle.decide_nodes.specs.declared.node.Node.{Node}
use Rattle.decide_nodes.specs.Nodes.{IsNodeTable}
use Rattle.decide_cnf.specs.Clauses.{IsNodeClause, node_says}
use Rattle.decide_cnf.specs.Literals.{IsLiteral}

-- To a list of clauses come those that are of some kind.
pub record IsGrown (Kind : List ℤ → Type 0) (old lists : List (List ℤ)) : Type 0 where
  pub kept : (clause : List ℤ) → Contains old clause → Contains lists clause
  pub added : (clause : List ℤ) → Kind clause → Contains lists clause
  pub each : (clause : List ℤ) → Contains lists clause → Contains old clause ⊎ Kind clause

-- The same clauses, each once.
pub record AreOnce (lists clauses : List (List ℤ)) : Type 0 where
  pub all : (clause : List ℤ) → Contains lists clause → Contains clauses clause
  pub each : (clause : List ℤ) → Contains clauses clause → Contains lists clause
  pub once : AllPairs (λ a b. a ≢ b) clauses

-- What is denied of a choice: of each of the first arguments that is chosen, its bit.
abbrev pub denied_at : (ℕ → Bool → ℤ) → Choice → ℕ → List ℤ
denied_at says choice k = if chosen_in choice k then says k (not (bits_in choice k)) ∷ [] else []

abbrev pub denied : (ℕ → Bool → ℤ) → Choice → ℕ → List ℤ
denied says choice zero = []
denied says choice (suc n) = denied says choice n ++ denied_at says choice n

-- The literals of the clause 'not that choice, or that bit'.
abbrev pub clause_literals : (ℕ → Bool → ℤ) → ℕ → Choice → Bool → List ℤ
clause_literals says count choice bit = denied says choice count ++ says count bit ∷ []

-- A node with a table, among the literals of nodes.
pub record IsTableOf (literals : List ℤ) (arguments : List ℕ) (values : List Value) (position : ℕ) : Type 0 where
  pub table : IsNodeTable position arguments values
  pub within : position < length literals
  pub fit : All (IsLiteral (2 ^ 27)) literals

-- The clause of a choice of arguments' bits for a bit of the node.
abbrev pub IsChoiceClause : List ℤ → List ℕ → ℕ → Bool → Choice → List ℤ → Type 0
IsChoiceClause literals arguments position bit choice clause =
    IsClause (node_says literals arguments position) (length arguments) (chosen_in choice) (bits_in choice) bit clause

-- The clause of one of some choices.
pub record IsSomeClause (literals : List ℤ) (arguments : List ℕ) (position : ℕ) (bit : Bool) (choices : List Choice)
    (clause : List ℤ) : Type 0 where
  pub choice : Choice
  pub inside : Contains choices choice
  pub is_clause : IsChoiceClause literals arguments position bit choice clause

-- The clause of a minimal choice for a bit of the node.
pub record IsBitClause (literals : List ℤ) (arguments : List ℕ) (values : List Value) (position : ℕ) (bit : Bool)
    (clause : List ℤ) : Type 0 where
  pub chosen : ℕ → Bool
  pub bits : ℕ → Bool
  pub choice : IsChoice (upto (length arguments)) (table_of values (length arguments)) chosen bits bit
  pub is_clause : IsClause (node_says literals arguments position) (length arguments) chosen bits bit clause

-- A clause of one of the first nodes.
pub record IsEarlyClause (nodes : List Node) (literals : List ℤ) (count : ℕ) (clause : List ℤ) : Type 0 where
  pub of_node : IsNodeClause nodes literals clause
  pub early : of_node.position < count
