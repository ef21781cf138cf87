-- The rest is shorter.
use Rattle.std.proofs.Common.{length}
use Rattle.decide_graph.proofs.node_root.+turned_number.Given as goal

abbrev pub decreases-turned_number : goal.decreases-turned_number
decreases-turned_number l = length l.roots.now
