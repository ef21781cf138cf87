-- The clauses so far.
use Rattle.std.proofs.Common.{◌≡◌, take}
use Rattle.std.specs.List.{fold}
use Rattle.decide_repair.specs.Kept.{with_clause}
use Rattle.decide_repair.proofs.copies.code_of.Given as goal

abbrev pub invariant-clauses : goal.invariant-clauses
invariant-clauses l = l.code ≡ fold with_clause 0 (take l.clause-index l.clauses)
