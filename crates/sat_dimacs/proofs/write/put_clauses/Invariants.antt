-- The text so far and the clauses that are left are all.
use Rattle.std.proofs.Common.{◌≡◌, ◌++◌, drop}
use Rattle.std.specs.List.{flat_map}
use Rattle.sat_dimacs.specs.Text.{clause_line}
use Rattle.sat_dimacs.proofs.write.put_clauses.Given as goal

abbrev pub invariant-clauses : goal.invariant-clauses
invariant-clauses l =
    l.text.items ++ flat_map clause_line (drop l.place l.clauses) ≡ l.fn.text.items ++ flat_map clause_line l.clauses
