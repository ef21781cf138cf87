-- The rest of the places is shorter.
use Rattle.std.proofs.Common.{length}
use Rattle.decide_graph.proofs.table.+number_of.Given as goal

abbrev pub decreases-number_of : goal.decreases-number_of
decreases-number_of g l = length l.places.now
