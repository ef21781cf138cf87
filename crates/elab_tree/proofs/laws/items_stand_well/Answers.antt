-- The law, for every text.
use Rattle.elab_tree.proofs.Fitting.{library_fits}
use Rattle.elab_tree.proofs.Items.{items_well}
use Rattle.elab_tree.specs.Library.{library_of}
use Rattle.elab_tree.proofs.laws.items_stand_well.Goals as goal

pub returns : goal.returns
returns c = λ source tables path room is here done well all whole built at. items_well (library_of source tables) path room is here done (library_fits source tables whole built) all well at
