-- The places that are taken are those of the cone and of its boundary.
use Rattle.std.proofs.Common.{◌∙◌, ap, reverse}
use Rattle.decide_cone.proofs.NearPlaces.{near_is}
use Rattle.decide_cone.proofs.near.near_places.Goals as goal

pub returns-clause-near : goal.returns-clause-near
returns-clause-near c root is =
    c.reverse.ensures.items
    ∙ near_is c.args.wave.now root c.args.cone.now.nodes is c.as_slice.result.now c.as_slice-2.result.now
    c.new-reached.result c.insert_all.new.reached c.insert_all-2.new.reached c.in_ok-near.near.items c.new-reached.ensures
    (c.as_slice.ensures.value ∙ c.in_ok-inside.ensures root is)
    (ap reverse c.as_slice-2.ensures.value ∙ c.in_ok-beside.ensures.are root is)
    c.in_ok-insert_all.ensures c.in_ok-insert_all-2.ensures c.in_ok-near.ensures
