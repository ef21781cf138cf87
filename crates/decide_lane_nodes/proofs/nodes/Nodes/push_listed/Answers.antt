-- The new list is that of the new node, and the others stay.
use Rattle.std.proofs.Common.{Some, List, ap, ◌∙◌}
use Rattle.decide_lane_nodes.specs.Nodes.{NodeView, with_node}
use Rattle.decide_lane_nodes.proofs.NodeLists.{listed_more}
use Rattle.decide_lane_nodes.proofs.nodes.Nodes.push_listed.Goals as goal

pub returns : goal.returns
returns c =
    rw (c.in_ok-push_node.ensures.ok, c.in_ok-push.ensures.ok)
    (listed_more c.self.inside.lists c.args.sources.now c.self.inside.nodes.items
    (record { lane_bits = c.args.lane_bits; place = c.args.place; list = c.in_ok-list.list }) c.self.invariant.0
    (c.in_ok-list.ensures ∙ ap Some c.len.ensures)
    ∙ ap (λ (ns : List NodeView). with_node ns c.args.place c.args.lane_bits (Some c.args.sources.now)) c.self.view_is)
