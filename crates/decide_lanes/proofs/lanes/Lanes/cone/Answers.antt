-- The cone is that of the next place's node.
use Rattle.decide_lanes.proofs.GraphNodes.{found_cone}
use Rattle.decide_lanes.proofs.lanes.Lanes.cone.Goals as goal

pub returns-clause-cone : goal.returns-clause-cone
returns-clause-cone c =
    found_cone c.args.wave.now c.args.self.now (record {
      nodes = c.self.inside.nodes;
      first = c.self.inside.first;
      literals = c.self.inside.literals.literals;
      next = c.self.inside.next;
      graph = c.self.inside.graph;
      shared = c.self.inside.shared;
      width = c.self.inside.literals.width;
    }) c.in-Some.node c.cone_of.result c.recall.ensures c.requires.right c.requires.looked c.self.view_is
    c.in-Some.is c.cone_of.ensures
