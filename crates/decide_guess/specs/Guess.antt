-- What is promised of guesses.
use Rattle.std.specs.Prelude.{◌≡◌, ℕ, ◌<◌, ◌≤◌, ⊤, true, List, length}
use Rattle.std.specs.List.{All}
use Rattle.decide_nodes.specs.declared.node.Node.{Node}
use Rattle.decide_nodes.specs.Nodes.{is_source_node, node_at}
use Rattle.decide_guess.specs.declared.guess.Guess.{Guess}
use Rattle.decide_guess.specs.declared.guess.Guess.TheVariants.{Filling, Log, Nothing}

-- A node of a graph whose table has x.
pub record IsSourceIn (nodes : List Node) (node : ℕ) : Type 0 where
  pub within : node < length nodes
  pub has_x : is_source_node (node_at nodes node) ≡ true

-- A filling lists sources of the graph, and a log has at most so many clauses.
abbrev pub IsGuess : List Node → ℕ → Guess → Type 0
IsGuess nodes most (Filling ones) = All (IsSourceIn nodes) ones.items
IsGuess nodes most (Log clauses) = length clauses.items ≤ most
IsGuess nodes most Nothing = ⊤
