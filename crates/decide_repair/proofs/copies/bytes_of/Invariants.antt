-- The clauses so far.
use Rattle.std.proofs.Common.{◌≡◌, take}
use Rattle.std.specs.List.{fold}
use Rattle.decide_repair.specs.Kept.{with_bytes}
use Rattle.decide_repair.proofs.copies.bytes_of.Given as goal

abbrev pub invariant-clauses : goal.invariant-clauses
invariant-clauses l = l.bytes ≡ fold with_bytes 0 (take l.clause-index l.clauses)
