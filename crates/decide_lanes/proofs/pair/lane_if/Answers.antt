-- Equal places are those that the lane lists.
use Rattle.std.proofs.Common.{sym, ◌∙◌}
use Rattle.std.proofs.lemmas.Slice.Eq.{slice_eq-Decides}
use Rattle.decide_lanes.proofs.LanePairs.{same_places}
use Rattle.decide_lanes.proofs.pair.lane_if.Goals as goal

pub returns-then-eq : goal.returns-then-eq
returns-then-eq c =
    let same = (slice_eq-Decides same_places c.as_slice.result.now c.args.filling.now c.eq.result c.eq.ensures).0 c.if-eq.true in
    record { within = c.requires.lane; same = sym same ∙ c.as_slice.ensures.value ∙ c.in_ok-places.ensures }
