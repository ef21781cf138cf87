-- What is known stays right, place by place.
use Rattle.decide_cone.proofs.KnownBodies.{tracers_stay}
use Rattle.decide_cone.proofs.laws.tracers_stay_right.Goals as goal

pub returns : goal.returns
returns c = tracers_stay
