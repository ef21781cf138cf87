-- A place that isn't found isn't there.
use Rattle.law_model.specs.Places.{among}
use Rattle.decide_cone.proofs.BoundaryPlaces.{not_true}
use Rattle.decide_graph.proofs.RisingLists.{found_there}
use Rattle.decide_cone.proofs.outside.is_among.Goals as goal

pub returns-in-Err : goal.returns-in-Err
returns-in-Err c =
    not_true (among c.args.places.now c.args.place) (λ at. found_there c.args.places.now c.args.place c.in-Err.field-0
    c.requires at c.in-Err.ensures.position)
