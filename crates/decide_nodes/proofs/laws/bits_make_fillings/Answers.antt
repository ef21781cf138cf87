-- The law stands in its lemma.
use Rattle.decide_nodes.proofs.ConeLaws.{chosen_law}
use Rattle.decide_nodes.proofs.laws.bits_make_fillings.Goals as goal

pub returns : goal.returns
returns c = chosen_law
