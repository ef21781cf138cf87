-- The law stands in its lemma.
use Rattle.decide_tables.proofs.RightTables.{stay_law}
use Rattle.decide_tables.proofs.laws.tables_stay.Goals as goal

pub returns : goal.returns
returns c = stay_law
