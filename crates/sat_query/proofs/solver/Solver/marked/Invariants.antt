-- No clause so far has the literal 0.
use Rattle.std.specs.List.{All}
use Rattle.sat_proof.specs.Assignment.{HasNoZero}
use Rattle.sat_query.proofs.solver.Solver.marked.Given as goal

abbrev pub invariant-clauses : goal.invariant-clauses
invariant-clauses l = All HasNoZero l.log.items
