-- The law stands in its lemma.
use Rattle.decide_lanes.proofs.EqualNodes.{equal_law}
use Rattle.decide_lanes.proofs.laws.equal_nodes_agree.Goals as goal

pub returns : goal.returns
returns c = equal_law
