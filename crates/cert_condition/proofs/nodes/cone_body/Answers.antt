-- A place of the cone is carried, or has its whole table.
use Rattle.std.proofs.Common.{◌∙◌, sym}
use Rattle.cert_condition.proofs.AroundPlaces.{carried_for, carrier_near, inside_near, near_reach, places_few, places_rise}
use Rattle.cert_condition.proofs.nodes.cone_body.Goals as goal

pub class_by_number-requires-clause-reached : goal.class_by_number-requires-clause-reached
class_by_number-requires-clause-reached c =
    (near_reach c.args.wave.now c.requires.around.0 c.args.places.now c.args.inside.now c.requires.around.1 c.args.place
    (inside_near c.args.wave.now c.requires.around.0 c.args.places.now c.args.inside.now c.requires.around.1 c.args.place
    c.requires.inside)).written

pub class_by_number-requires-clause-within : goal.class_by_number-requires-clause-within
class_by_number-requires-clause-within c =
    (near_reach c.args.wave.now c.requires.around.0 c.args.places.now c.args.inside.now c.requires.around.1 c.args.place
    (inside_near c.args.wave.now c.requires.around.0 c.args.places.now c.args.inside.now c.requires.around.1 c.args.place
    c.requires.inside)).within

pub position_in-requires-clause-rising : goal.position_in-requires-clause-rising
position_in-requires-clause-rising c =
    places_rise c.args.wave.now c.requires.around.0 c.args.places.now c.args.inside.now c.requires.around.1

pub position_in-requires-clause-few : goal.position_in-requires-clause-few
position_in-requires-clause-few c =
    places_few c.args.wave.now c.requires.around.0 c.args.places.now c.args.inside.now c.requires.around.1

pub position_in-requires-clause-inside : goal.position_in-requires-clause-inside
position_in-requires-clause-inside c =
    carrier_near c.args.wave.now c.requires.around.0 c.args.places.now c.args.inside.now c.requires.around.1 c.args.place
    c.in-Carried.from c.in-Carried.inverted c.requires.inside (sym c.class_by_number.ensures ∙ c.in-Carried.is)

pub returns-in-Carried : goal.returns-in-Carried
returns-in-Carried c root around =
    carried_for c.args.wave.now root c.args.places.now c.args.inside.now around c.args.place c.in-Carried.from
    c.position_in.result c.in-Carried.inverted c.requires.inside (sym c.class_by_number.ensures ∙ c.in-Carried.is)
    c.position_in.ensures.within c.position_in.ensures.place
