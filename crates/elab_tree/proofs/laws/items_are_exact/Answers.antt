-- The law, for every library.
use Rattle.elab_tree.proofs.Relating.{items_exact}
use Rattle.elab_tree.proofs.laws.items_are_exact.Goals as goal

pub returns : goal.returns
returns c = λ l path room is here h. items_exact l path room is here h
