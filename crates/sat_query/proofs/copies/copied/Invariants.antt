-- The first clauses are copied.
use Rattle.std.proofs.Common.{◌≡◌, take}
use Rattle.sat_query.proofs.copies.copied.Given as goal

abbrev pub invariant-clauses : goal.invariant-clauses
invariant-clauses l = l.copies.items ≡ take l.clause-index l.clauses
