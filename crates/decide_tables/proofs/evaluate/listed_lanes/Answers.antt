-- One place more of the list.
use Rattle.decide_nodes.specs.Nodes.{no_node}
use Rattle.decide_tables.proofs.ListedPlaces.{lanes_more}
use Rattle.decide_tables.proofs.evaluate.listed_lanes.Goals as goal

pub sources-preserved : goal.sources-preserved
sources-preserved c =
    lanes_more c.args.list.now c.args.block c.sources.source c.args.place no_node.place c.sources.lanes
    c.lanes_if_same.result c.or-lanes.result c.sources-test.true c.sources.invariant c.lanes_if_same.ensures
    c.or-lanes.ensures
