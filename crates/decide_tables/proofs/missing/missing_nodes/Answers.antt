-- The greatest of the nodes that wait is taken out, and what it reads stands below it.
use Rattle.std.proofs.Common.{◌<◌, List, ℕ, [], length, arith, subst, sym}
use Rattle.std.specs.List.{AllByRecursion}
use Rattle.decide_graph.specs.Reached.{Adds}
use Rattle.decide_tables.proofs.ReachedNodes.{added_below, end_up, push_all, taken_below_end, taken_low, wider}
use Rattle.decide_tables.proofs.missing.missing_nodes.Goals as goal

pub nodes-init : goal.nodes-init
nodes-init c = record {
  waiting = added_below [] c.insert.new.self c.args.top (length c.args.graph.now)
      (subst (λ (xs : List ℕ). Adds xs c.args.top c.insert.new.self) c.new-reached.ensures c.in_ok-insert.ensures)
      c.requires tt;
  missing = subst (AllByRecursion (λ node. node < length c.args.graph.now)) (sym c.new-missing.ensures.items) tt;
}

pub reach_read-requires-clause-node : goal.reach_read-requires-clause-node
reach_read-requires-clause-node c =
    taken_low c.nodes.reached c.take_greatest.new.self c.in-Some.node (length c.args.graph.now) c.in-Some.ensures
    c.nodes.invariant.waiting

pub nodes-smaller : goal.nodes-smaller
nodes-smaller c =
    let low = taken_below_end c.nodes.reached c.take_greatest.new.self c.in-Some.node c.in-Some.ensures in
    let takes = c.in-Some.ensures in
    let up = end_up c.take_greatest.new.self c.in-Some.node takes.below in
    omega (arith, low, up)

pub nodes-preserved : goal.nodes-preserved
nodes-preserved c =
    let low = taken_low c.nodes.reached c.take_greatest.new.self c.in-Some.node (length c.args.graph.now) c.in-Some.ensures
    c.nodes.invariant.waiting in
    let takes = c.in-Some.ensures in
    record {
      waiting = wider c.take_greatest.new.self c.in-Some.node (length c.args.graph.now) (omega (arith, low)) takes.below;
      missing = c.nodes.invariant.missing;
    }

pub nodes-smaller-in-Continue-branch-3 : goal.nodes-smaller-in-Continue-branch-3
nodes-smaller-in-Continue-branch-3 c =
    let low = taken_below_end c.nodes.reached c.take_greatest.new.self c.in-Some.node c.in-Some.ensures in
    let up = end_up c.reach_read.new.reached c.in-Some.node c.in_ok-reach_read.ensures in
    omega (arith, low, up)

pub nodes-preserved-in-Continue-branch-3 : goal.nodes-preserved-in-Continue-branch-3
nodes-preserved-in-Continue-branch-3 c =
    let low = taken_low c.nodes.reached c.take_greatest.new.self c.in-Some.node (length c.args.graph.now) c.in-Some.ensures
    c.nodes.invariant.waiting in
    record {
      waiting = wider c.reach_read.new.reached c.in-Some.node (length c.args.graph.now) (omega (arith, low))
          c.in_ok-reach_read.ensures;
      missing = subst (AllByRecursion (λ node. node < length c.args.graph.now)) (sym c.in_ok-push.ensures.items)
          (push_all (λ node. node < length c.args.graph.now) c.nodes.missing.items c.in-Some.node c.nodes.invariant.missing low);
    }
