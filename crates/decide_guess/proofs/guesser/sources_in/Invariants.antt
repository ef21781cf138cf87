-- Those so far are sources.
use Rattle.std.specs.List.{All}
use Rattle.decide_guess.specs.Guess.{IsSourceIn}
use Rattle.decide_guess.proofs.guesser.sources_in.Given as goal

abbrev pub invariant-nodes : goal.invariant-nodes
invariant-nodes l = All (IsSourceIn l.graph) l.sources.items
