-- No more clauses are allowed than at first.
use Rattle.std.proofs.Common.{◌≤◌}
use Rattle.decide_justify.specs.Search.{clauses_allowed}
use Rattle.decide_justify.proofs.search.Search.go_on.Given as goal

abbrev pub invariant-steps : goal.invariant-steps
invariant-steps l = clauses_allowed l.self ≤ clauses_allowed l.initial.self
