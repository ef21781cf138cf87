-- The sources so far and those of what is left are all.
use Rattle.std.proofs.Common.{◌≡◌, ◌++◌, drop}
use Rattle.decide_nodes.specs.Nodes.{sources_of}
use Rattle.decide_nodes.proofs.cone.sources_in.Given as goal

abbrev pub invariant-nodes : goal.invariant-nodes
invariant-nodes l = l.sources.items ++ sources_of (drop l.node-index l.nodes) ≡ sources_of l.fn.nodes
