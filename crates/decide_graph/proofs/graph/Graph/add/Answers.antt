-- The node stands after what it reads.
use Rattle.std.proofs.Common.{◌<◌, ◌^◌, List, length, subst, sym}
use Rattle.decide_nodes.specs.declared.node.Node.{Node}
use Rattle.decide_graph.specs.NodeRoots.{AreNodeRoots}
use Rattle.decide_graph.proofs.TurnedTables.{few_values, kept_more}
use Rattle.decide_graph.proofs.graph.Graph.add.Goals as goal

pub push-requires-clause-table : goal.push-requires-clause-table
push-requires-clause-table c =
    few_values c.args.roots.now c.args.values.now c.as_slice-2.result.now c.requires.roots.few c.requires.table
    (rw c.as_slice-2.ensures.value c.in_ok-values.ensures)

pub invariant_of-self-2 : goal.invariant_of-self-2
invariant_of-self-2 c =
    kept_more c.self.inside.nodes c.push.new.self c.args.place c.args.roots.now c.args.values.now
    c.in_ok-values.values.items c.self.invariant
    (subst (λ (ns : List Node). length ns < 2 ^ 27) (sym c.self.view_is) c.requires.few)
    (subst (λ (ns : List Node). AreNodeRoots (length ns) c.args.roots.now) (sym c.self.view_is) c.requires.roots)
    c.requires.table c.in_ok-values.ensures
    (rw (c.as_slice.ensures, c.as_slice-2.ensures.value, c.nodes_of-arguments.ensures) at c.in_ok-push.ensures.ok)
