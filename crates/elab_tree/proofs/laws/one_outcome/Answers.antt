-- The law, for every text.
use Rattle.elab_tree.proofs.Outcomes.{one_of}
use Rattle.elab_tree.proofs.laws.one_outcome.Goals as goal

pub returns : goal.returns
returns c = λ source top a b x y. one_of source top a b x y
