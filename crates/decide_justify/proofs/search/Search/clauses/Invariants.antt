-- There are as many clauses as numbers were read.
use Rattle.std.proofs.Common.{◌≡◌, length}
use Rattle.decide_justify.proofs.search.Search.clauses.Given as goal

abbrev pub invariant-clauses : goal.invariant-clauses
invariant-clauses l = length l.clauses.items ≡ l.k
