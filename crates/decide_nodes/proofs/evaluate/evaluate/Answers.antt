-- The lanes so far are those of the nodes so far.
use Rattle.std.proofs.Common.{◌≡◌, subst, take, get_or}
use Rattle.std.proofs.lemmas.List.{get_or_default}
use Rattle.decide_nodes.specs.Lanes.{HasLanes, in_lane, lane_of}
use Rattle.decide_nodes.specs.Nodes.{body_of, no_node, node_at}
use Rattle.decide_nodes.specs.declared.node.Node.{Node}
use Rattle.law_model.specs.Node.{node_bit}
use Rattle.decide_nodes.proofs.LaneTables.{evaluated_none, evaluated_more}
use Rattle.decide_nodes.proofs.evaluate.evaluate.Goals as goal

pub nodes-init : goal.nodes-init
nodes-init c = evaluated_none c.args.nodes.now c.args.given.now c.args.lane_table.now c.requires.room

pub nodes-preserved : goal.nodes-preserved
nodes-preserved c =
    let node : Node = c.index-nodes-position.result in
    let same : get_or c.args.nodes.now c.nodes.position node ≡ node_at c.args.nodes.now c.nodes.position =
    get_or_default c.args.nodes.now c.nodes.position node no_node c.nodes-test.true in
    let has : HasLanes c.node_lanes.result (λ lane. node_bit (lane_of (take c.nodes.position c.nodes.lane_table) lane)
    (in_lane c.lane_bits_at-own.result lane) (body_of (node_at c.args.nodes.now c.nodes.position).body)) =
    subst (λ (node : Node). HasLanes c.node_lanes.result (λ lane. node_bit
    (lane_of (take c.nodes.position c.nodes.lane_table) lane) (in_lane c.lane_bits_at-own.result lane) (body_of node.body))) same c.node_lanes.ensures in
    rw c.counted-sources.ensures
    (evaluated_more c.args.nodes.now c.args.births.now c.args.given.now c.nodes.lane_table c.nodes.sources c.nodes.position
    c.lane_bits_at-own.result c.node_lanes.result c.nodes-test.true c.requires.births c.nodes.invariant
    c.lane_bits_at-own.ensures has)
