-- Each law stands in its lemma.
use Rattle.decide_nodes.proofs.ConeLaws.{base_law, listed_law}
use Rattle.decide_nodes.proofs.laws.fillings_make_bits.Goals as goal

pub returns-clause-listed : goal.returns-clause-listed
returns-clause-listed c = listed_law

pub returns-clause-base : goal.returns-clause-base
returns-clause-base c = base_law
