-- The law stands in its lemma.
use Rattle.decide_graph.proofs.GrownGraphs.{grow_law}
use Rattle.decide_graph.proofs.laws.graphs_grow.Goals as goal

pub returns : goal.returns
returns c = grow_law
