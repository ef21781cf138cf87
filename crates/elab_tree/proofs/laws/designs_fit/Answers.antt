-- The law, for every text.
use Rattle.elab_tree.proofs.Fitting.{fits_of}
use Rattle.elab_tree.proofs.laws.designs_fit.Goals as goal

pub returns : goal.returns
returns c = λ source tables top design is built at. fits_of source tables top design is built at
