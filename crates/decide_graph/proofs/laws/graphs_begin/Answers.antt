-- The law stands in its lemma.
use Rattle.decide_graph.proofs.GrownGraphs.{begin_law}
use Rattle.decide_graph.proofs.laws.graphs_begin.Goals as goal

pub returns : goal.returns
returns c = begin_law
