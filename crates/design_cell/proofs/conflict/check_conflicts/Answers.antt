-- Where no rows differ, none are in conflict.
use Rattle.design_cell.proofs.Clashes.{none_differ}
use Rattle.design_cell.proofs.conflict.check_conflicts.Goals as goal

pub returns-in-None : goal.returns-in-None
returns-in-None c = none_differ c.args.sequential c.args.inputs c.args.rows.now c.requires.rows c.requires.states c.in-None.ensures
