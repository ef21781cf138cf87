-- What the places so far read is in.
use Rattle.decide_cone.proofs.BoundaryPlaces.{AreRead}
use Rattle.decide_cone.proofs.outside.falling_boundary.Given as goal

abbrev pub invariant-nodes : goal.invariant-nodes
invariant-nodes l = AreRead l.wave l.numbers.items l.position l.reached
