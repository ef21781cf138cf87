-- No more clauses are allowed than at first.
use Rattle.std.proofs.Common.{◌≤◌}
use Rattle.decide_justify.specs.Search.{clauses_allowed}
use Rattle.decide_guess.proofs.guesser.Guesser.go_through.Given as goal

abbrev pub invariant-nodes : goal.invariant-nodes
invariant-nodes l = clauses_allowed l.self.search ≤ clauses_allowed l.initial.self.search
