-- Less is wanting.
use Rattle.std.proofs.Common.{◌-◌, length}
use Rattle.decide_graph.proofs.graph.widen.Given as goal

abbrev pub decreases-more : goal.decreases-more
decreases-more l = l.len - length l.room.items
