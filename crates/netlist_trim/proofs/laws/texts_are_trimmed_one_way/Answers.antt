-- A text with a top comes to one outcome.
use Rattle.netlist_trim.proofs.OneWay.{one_outcome}
use Rattle.netlist_trim.proofs.laws.texts_are_trimmed_one_way.Goals as goal

pub returns : goal.returns
returns c = one_outcome
