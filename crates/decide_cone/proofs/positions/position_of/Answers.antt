-- A place that is there is found.
use Rattle.decide_graph.proofs.RisingLists.{found_there}
use Rattle.decide_cone.proofs.positions.position_of.Goals as goal

pub unreachable-requires : goal.unreachable-requires
unreachable-requires c =
    found_there c.args.places.now c.args.place c.in-Err.field-0 c.requires.rising c.requires.inside
    c.in-Err.ensures.position
