-- The law stands in its lemma.
use Rattle.decide_nodes.proofs.ConeLaws.{enumerated_law}
use Rattle.decide_nodes.proofs.laws.numbers_make_fillings.Goals as goal

pub returns : goal.returns
returns c = enumerated_law
