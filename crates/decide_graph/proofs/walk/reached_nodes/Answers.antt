-- The greatest of the nodes that wait is taken, and what it reads comes in.
use Rattle.std.proofs.Common.{◌≡◌, List, ℕ, ap, arith, subst, sym}
use Rattle.decide_graph.specs.Reached.{Adds, AddsAll}
use Rattle.decide_nodes.specs.declared.node.Node.{Node}
use Rattle.decide_nodes.specs.Nodes.{node_at}
use Rattle.decide_graph.specs.Walk.{read_nodes}
use Rattle.decide_graph.proofs.TakenNodes.{IsDescent, descent_begins, descent_ends, descent_more, descent_within}
use Rattle.decide_graph.proofs.walk.reached_nodes.Goals as goal

pub nodes-init : goal.nodes-init
nodes-init c =
    subst (λ (ps : List ℕ). IsDescent c.args.nodes.now c.args.top ps c.insert.new.self) (sym c.new-taken.ensures.items)
    (descent_begins c.args.nodes.now c.args.top c.insert.new.self
    (subst (λ (xs : List ℕ). Adds xs c.args.top c.insert.new.self) c.new-reached.ensures c.in_ok-insert.ensures))

pub nodes-smaller : goal.nodes-smaller
nodes-smaller c =
    let low = descent_within c.args.nodes.now c.args.top c.in-Some.node c.nodes.taken.items c.nodes.reached
    c.take_greatest.new.self c.nodes.invariant c.in-Some.ensures in
    let room = low.1 in
    let long = c.in_ok-push.ensures.len in
    omega (arith, room, long)

pub nodes-preserved : goal.nodes-preserved
nodes-preserved c =
    let nodes : List Node = c.args.nodes.now in
    let node : ℕ = c.in-Some.node in
    let same : c.node.result.arguments.now ≡ read_nodes (node_at nodes node).body =
    ap (λ (n : Node). read_nodes n.body) (sym c.node.ensures) in
    let adds = subst (λ (ks : List ℕ). AddsAll c.take_greatest.new.self ks c.insert_all.new.reached) same
    c.in_ok-insert_all.ensures in
    subst (λ (ps : List ℕ). IsDescent nodes c.args.top ps c.insert_all.new.reached) (sym c.in_ok-push.ensures.items)
    (descent_more nodes c.args.top node c.nodes.taken.items c.nodes.reached c.take_greatest.new.self
    c.insert_all.new.reached c.requires.ordered c.requires.within c.nodes.invariant c.in-Some.ensures adds)

pub node-requires : goal.node-requires
node-requires c =
    let low = descent_within c.args.nodes.now c.args.top c.in-Some.node c.nodes.taken.items c.nodes.reached
    c.take_greatest.new.self c.nodes.invariant c.in-Some.ensures in
    let up = low.0 in let top = c.requires.within in omega (arith, up, top)

pub returns : goal.returns
returns c = descent_ends c.args.nodes.now c.args.top c.nodes.taken.items c.nodes.reached c.nodes.invariant c.in_default.ensures
