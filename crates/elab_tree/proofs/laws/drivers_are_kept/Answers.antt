-- The law, for every library.
use Rattle.elab_tree.proofs.Keeping.{items_stay}
use Rattle.elab_tree.proofs.laws.drivers_are_kept.Goals as goal

pub returns : goal.returns
returns c = λ l path room is here done same at. items_stay l path room is here done same at
