-- The law stands in its lemma.
use Rattle.decide_nodes.proofs.NodeWorlds.{whole_law}
use Rattle.decide_nodes.proofs.laws.whole_cones_are_cones.Goals as goal

pub returns : goal.returns
returns c = whole_law
