-- Nodes as literals: a node that isn't carried is a variable, a carried one the literal that it is carried from.
use Rattle.std.specs.Prelude.{◌≡◌, ℕ, ◌+◌, ◌<◌, ◌≤◌, Bool, true, false, List, filter, length, not, slice_index_or, take}
use Rattle.std.specs.Prelude.{ℤ, pos, nat_abs, neg_ℤ}
use Rattle.decide_nodes.specs.declared.node.Node.{Node}
use Rattle.decide_nodes.specs.declared.node.NodeBody.{NodeBody as Body}
use Rattle.decide_nodes.specs.declared.node.NodeBody.TheVariants.{Carried, Rule}
use Rattle.decide_nodes.specs.Nodes.{node_at}

-- The literal that says that what a literal says has a bit.
abbrev pub says : ℤ → Bool → ℤ
says literal true = literal
says literal false = neg_ℤ literal

abbrev pub literal_at : List ℤ → ℕ → ℤ
literal_at literals position = slice_index_or literals position (pos 0)

-- The nodes that aren't carried are the variables, numbered from 1 in place order.
abbrev pub is_ruled_body : Body → Bool
is_ruled_body (Carried node inverted) = false
is_ruled_body (Rule arguments values) = true

abbrev pub is_ruled_node : Node → Bool
is_ruled_node node = is_ruled_body node.body

abbrev pub variables_of : List Node → ℕ
variables_of nodes = length (filter is_ruled_node nodes)

-- How many there are behind a node, from how many there are before it.
abbrev pub variables_with : ℕ → Body → ℕ
variables_with before (Carried node inverted) = before
variables_with before (Rule arguments values) = before + 1

-- The literal that says that a node has 1.
abbrev pub literal_by : List ℤ → ℕ → Body → ℤ
literal_by literals before (Carried node inverted) = says (literal_at literals node) (not inverted)
literal_by literals before (Rule arguments values) = pos (before + 1)

-- A literal of some variables.
pub record IsLiteral (variables : ℕ) (literal : ℤ) : Type 0 where
  pub some : 0 < nat_abs literal
  pub few : nat_abs literal ≤ variables

-- The literals of some nodes: each says that its node has 1.
pub record AreLiterals (nodes : List Node) (literals : List ℤ) : Type 0 where
  pub long : length literals ≡ length nodes
  pub each : (position : ℕ) → position < length nodes
      → literal_at literals position
      ≡ literal_by literals (variables_of (take position nodes)) (node_at nodes position).body
  pub fit : (position : ℕ) → position < length nodes
      → IsLiteral (variables_of nodes) (literal_at literals position)
