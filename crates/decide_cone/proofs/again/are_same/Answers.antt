-- Equal places, one by one.
use Rattle.std.proofs.lemmas.Slice.Eq.{slice_eq-Decides}
use Rattle.decide_lanes.proofs.LanePairs.{same_places}
use Rattle.decide_cone.proofs.again.are_same.Goals as goal

pub returns : goal.returns
returns c = λ told. (slice_eq-Decides same_places c.args.first.now c.args.second.now c.eq.result c.eq.ensures).0 told
