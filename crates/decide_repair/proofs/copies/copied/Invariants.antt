-- The copies so far.
use Rattle.std.proofs.Common.{◌≡◌, take}
use Rattle.decide_repair.proofs.copies.copied.Given as goal

abbrev pub invariant-clauses : goal.invariant-clauses
invariant-clauses l = l.copies.items ≡ take l.place l.clauses
