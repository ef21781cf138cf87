-- The places that are taken fall, and the others are below them.
use Rattle.std.proofs.Common.{length}
use Rattle.decide_cone.proofs.BoundaryPlaces.{TakenSoFar}
use Rattle.decide_cone.proofs.outside.taken_of.Given as goal

abbrev pub invariant-rest : goal.invariant-rest
invariant-rest l = TakenSoFar l.initial.reached l.taken.items l.reached

abbrev pub decreases-rest : goal.decreases-rest
decreases-rest l = length l.reached
