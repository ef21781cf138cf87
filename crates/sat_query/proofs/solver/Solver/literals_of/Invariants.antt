-- No literal so far is 0.
use Rattle.sat_proof.specs.Assignment.{HasNoZero}
use Rattle.sat_query.proofs.solver.Solver.literals_of.Given as goal

abbrev pub invariant-literals : goal.invariant-literals
invariant-literals l = HasNoZero l.literals.items
