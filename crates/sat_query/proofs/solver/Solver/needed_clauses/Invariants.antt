-- The clauses so far are among those of the formula.
use Rattle.sat_query.specs.Core.{AreAmong}
use Rattle.sat_query.proofs.solver.Solver.needed_clauses.Given as goal

abbrev pub invariant-clauses : goal.invariant-clauses
invariant-clauses l = AreAmong l.needed.items l.clauses
