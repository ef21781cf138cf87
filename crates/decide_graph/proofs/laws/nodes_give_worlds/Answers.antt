-- The law stands in its lemma.
use Rattle.decide_graph.proofs.GraphBits.{world_law}
use Rattle.decide_graph.proofs.laws.nodes_give_worlds.Goals as goal

pub returns : goal.returns
returns c = world_law
