-- The greatest of the others comes next.
use Rattle.decide_cone.proofs.BoundaryPlaces.{taken_more}
use Rattle.decide_cone.proofs.outside.taken_of.Goals as goal

pub rest-preserved : goal.rest-preserved
rest-preserved c =
    rw c.in_ok-push.ensures.items (taken_more c.args.reached c.rest.taken.items c.rest.reached c.take_greatest.new.self
    c.in-Some.place c.rest.invariant c.in-Some.ensures)
