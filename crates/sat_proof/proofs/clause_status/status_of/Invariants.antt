-- What the literals so far show of the clause.
use Rattle.sat_proof.specs.Status.{HasSeen}
use Rattle.sat_proof.proofs.clause_status.status_of.Given as goal

abbrev pub invariant-loop-k : goal.invariant-loop-k
invariant-loop-k l = HasSeen l.marks l.literals l.k l.open
