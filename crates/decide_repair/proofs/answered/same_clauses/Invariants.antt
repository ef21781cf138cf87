-- The clauses so far are equal.
use Rattle.std.proofs.Common.{◌≡◌, take}
use Rattle.decide_repair.proofs.answered.same_clauses.Given as goal

abbrev pub invariant-clauses : goal.invariant-clauses
invariant-clauses l = take l.place l.first ≡ take l.place l.second
