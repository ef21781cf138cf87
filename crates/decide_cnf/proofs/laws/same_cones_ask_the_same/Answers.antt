-- The law stands in its lemma.
use Rattle.decide_cnf.proofs.SameCones.{same_law}
use Rattle.decide_cnf.proofs.laws.same_cones_ask_the_same.Goals as goal

pub returns : goal.returns
returns c = same_law
