-- The set has a place's spot exactly where the filling lists the place.
use Rattle.std.proofs.Common.{◌∙◌}
use Rattle.decide_nodes.specs.Listed.{spot_of}
use Rattle.decide_nodes.proofs.ListedSpots.{member_listed}
use Rattle.decide_nodes.proofs.listed.is_in.Goals as goal

pub returns : goal.returns
returns c = c.contains.ensures ∙ c.requires.0 (spot_of c.args.place) ∙ member_listed c.args.filling.now c.args.place
