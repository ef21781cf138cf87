-- The clauses that are found so far are among all.
use Rattle.std.proofs.Common.{◌≤◌, length, take}
use Rattle.sat_query.specs.Core.{AreAmong}
use Rattle.sat_query.proofs.cores.has_all.Given as goal

abbrev pub invariant-clauses : goal.invariant-clauses
invariant-clauses l = (l.found ≤ length l.some) × AreAmong (take l.found l.some) l.all
