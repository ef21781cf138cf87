-- The law stands in its lemma.
use Rattle.decide_nodes.proofs.ConeLaws.{sources_law}
use Rattle.decide_nodes.proofs.laws.sources_are_of_the_cone.Goals as goal

pub returns : goal.returns
returns c = sources_law
