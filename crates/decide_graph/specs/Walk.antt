-- Nodes that are reached from one.
use Rattle.std.specs.Prelude.{◌≡◌, ℕ, ◌+◌, ◌<◌, Bool, true, List, [], ◌∷◌, length}
use Rattle.std.specs.List.{AllByRecursion}
use Rattle.law_model.specs.Places.{among}
use Rattle.decide_graph.specs.Reached.{IsFalling}
use Rattle.decide_nodes.specs.declared.node.Node.{Node}
use Rattle.decide_nodes.specs.declared.node.NodeBody.{NodeBody as Body}
use Rattle.decide_nodes.specs.declared.node.NodeBody.TheVariants.{Carried, Rule}
use Rattle.decide_nodes.specs.Nodes.{node_at}

-- What a node reads.
abbrev pub read_nodes : Body → List ℕ
read_nodes (Carried node inverted) = node ∷ []
read_nodes (Rule arguments values) = arguments

abbrev pub reads_node : List Node → ℕ → ℕ → Bool
reads_node nodes node argument = among (read_nodes (node_at nodes node).body) argument

-- A set that has a node, and with each node what it reads.
pub record IsClosedSet (nodes : List Node) (top : ℕ) (has : ℕ → Bool) : Type 0 where
  pub first : has top ≡ true
  pub each : (node argument : ℕ) → has node ≡ true → reads_node nodes node argument ≡ true → has argument ≡ true

-- Of these sets one of nodes up to it is the least: of those that are reached from it.
pub record AreReached (nodes : List Node) (top : ℕ) (has : ℕ → Bool) : Type 0 where
  pub low : (node : ℕ) → has node ≡ true → node < top + 1
  pub closed : IsClosedSet nodes top has
  pub least : (other : ℕ → Bool) → IsClosedSet nodes top other → (node : ℕ) → has node ≡ true → other node ≡ true

-- Nodes are those, the greatest first.
abbrev pub is_taken : List ℕ → ℕ → Bool
is_taken taken node = among taken node

pub record AreTakenFrom (nodes : List Node) (top : ℕ) (taken : List ℕ) : Type 0 where
  pub falls : IsFalling taken
  pub reached : AreReached nodes top (is_taken taken)

-- Some of the nodes, the greatest first, and all that these read.
pub record AreAllTaken (nodes : List Node) (taken : List ℕ) : Type 0 where
  pub falls : IsFalling taken
  pub within : AllByRecursion (λ node. node < length nodes) taken
  pub closed : (node argument : ℕ) → is_taken taken node ≡ true → reads_node nodes node argument ≡ true
      → is_taken taken argument ≡ true
