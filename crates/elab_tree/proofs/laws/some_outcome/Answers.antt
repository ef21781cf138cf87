-- The law, for every text.
use Rattle.elab_tree.proofs.Outcomes.{some_of}
use Rattle.elab_tree.proofs.laws.some_outcome.Goals as goal

pub returns : goal.returns
returns c = λ source top tables is. some_of source top tables is
