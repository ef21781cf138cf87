-- The law, for every text.
use Rattle.elab_design.proofs.Uniting.{one_table}
use Rattle.elab_design.proofs.laws.levels_are_one.Goals as goal

pub returns : goal.returns
returns c = one_table
