-- What waits and what is missing are nodes of the graph; what waits goes down.
use Rattle.std.proofs.Common.{◌<◌, length}
use Rattle.std.specs.List.{AllByRecursion}
use Rattle.decide_tables.proofs.ReachedNodes.{end_of}
use Rattle.decide_tables.proofs.missing.missing_nodes.Given as goal

abbrev pub invariant-nodes : goal.invariant-nodes
invariant-nodes l = record {
  waiting : AllByRecursion (λ node. node < length l.graph) l.reached;
  missing : AllByRecursion (λ node. node < length l.graph) l.missing.items;
}

abbrev pub decreases-nodes : goal.decreases-nodes
decreases-nodes l = end_of l.reached
