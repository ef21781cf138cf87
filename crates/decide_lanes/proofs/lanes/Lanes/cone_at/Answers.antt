-- The cone is that of the node in the graph.
use Rattle.decide_lanes.proofs.RootedPlaces.{cone_of_node}
use Rattle.decide_lanes.proofs.lanes.Lanes.cone_at.Goals as goal

pub returns-clause-cone : goal.returns-clause-cone
returns-clause-cone c =
    cone_of_node c.args.wave.now c.args.self.now _ c.args.node c.cone_of.result c.recall.ensures
    c.requires.right c.requires.node c.self.view_is c.cone_of.ensures
