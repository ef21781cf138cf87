-- The law stands in its lemma.
use Rattle.decide_graph.proofs.GrownGraphs.{stay_law}
use Rattle.decide_graph.proofs.laws.graphs_stay.Goals as goal

pub returns : goal.returns
returns c = stay_law
