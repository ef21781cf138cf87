-- The law, for every library.
use Rattle.elab_tree.proofs.Relating.{top_exact}
use Rattle.elab_tree.proofs.laws.tops_are_exact.Goals as goal

pub returns : goal.returns
returns c = λ l k here r at e. top_exact l k here r at e
