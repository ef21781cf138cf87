-- One node after another.
use Rattle.std.proofs.Common.{◌≡◌, ◌∙◌, arith, length, subst, sym, ap, rules, slice_index, slice_set}
use Rattle.std.specs.Vec.{vec_len}
use Rattle.decide_nodes.specs.declared.node.Node.{Node}
use Rattle.decide_nodes.specs.Nodes.{StandsAt}
use Rattle.decide_graph.specs.Picked.{moved_node}
use Rattle.decide_graph.proofs.PickedNodes.{node_room, node_stands, node_within, picked_more, picked_none, picked_small}
use Rattle.decide_graph.proofs.picked.picked_nodes.Goals as goal

pub rest-init : goal.rest-init
rest-init c = picked_none c.args.nodes.now c.args.taken.items c.args.positions.now.items _ c.requires.room c.in_ok-picked.ensures.items

pub overflow_cast-len : goal.overflow_cast-len
overflow_cast-len c =
    let small = picked_small c.args.nodes.now c.args.taken.items c.rest.rest.items c.pop.new.self.items
    c.rest.positions.items c.rest.picked.items c.in-Some.node c.requires.ordered c.requires.taken c.rest.invariant
    c.in-Some.ensures.items in
    let long : c.len-in-Some.result ≡ length c.rest.picked.items = search rules in
    let few = c.requires.ordered.few in
    omega (arith, small, long, few)

pub index_mut-requires : goal.index_mut-requires
index_mut-requires c =
    let less = node_room c.args.nodes.now c.args.taken.items c.rest.rest.items c.pop.new.self.items
    c.rest.positions.items c.rest.picked.items c.in-Some.node c.requires.ordered c.requires.taken c.rest.invariant
    c.in-Some.ensures.items in
    let long : vec_len c.rest.positions ≡ length c.rest.positions.items = search rules in
    omega (arith, less, long)

pub node-requires : goal.node-requires
node-requires c = node_within c.args.nodes.now c.args.taken.items c.rest.rest.items c.pop.new.self.items
    c.rest.positions.items c.rest.picked.items c.in-Some.node c.requires.ordered c.requires.taken c.rest.invariant
    c.in-Some.ensures.items

pub moved_node-requires : goal.moved_node-requires
moved_node-requires c =
    let long : c.len-in-Some.result ≡ length c.rest.picked.items = search rules in
    subst (λ (n : Node). StandsAt (length c.as_slice.result.now) n.body)
    c.node.ensures
    (node_stands c.args.nodes.now c.args.taken.items c.rest.rest.items c.pop.new.self.items
    c.rest.positions.items c.rest.picked.items c.in-Some.node c.requires.ordered c.requires.taken c.rest.invariant
    c.in-Some.ensures.items c.as_slice.result.now
    (c.as_slice.ensures.value ∙ ap (slice_set c.rest.positions.items c.in-Some.node) long))

pub rest-preserved : goal.rest-preserved
rest-preserved c =
    let long : c.len-in-Some.result ≡ length c.rest.picked.items = search rules in
    picked_more c.args.nodes.now c.args.taken.items c.rest.rest.items c.pop.new.self.items
    c.rest.positions.items c.rest.picked.items c.in-Some.node c.requires.ordered c.requires.taken c.rest.invariant
    c.in-Some.ensures.items _ (ap (slice_set c.rest.positions.items c.in-Some.node) long) c.in_ok-moved.moved c.push.new.self.items
    ((rw c.as_slice.ensures.value at c.in_ok-moved.ensures)
    ∙ ap (moved_node (slice_index (slice_set c.rest.positions.items c.in-Some.node c.len-in-Some.result)))
    (sym c.node.ensures))
    c.in_ok-push.ensures.items
