-- A row that differs from one behind it has a first row that conflicts with it.
use Rattle.design_cell.proofs.Clashes.{some_second, first_pair}
use Rattle.design_cell.proofs.conflict.with_second.Goals as goal

pub returns-in-None : goal.returns-in-None
returns-in-None c = absurd (some_second c.args.sequential c.args.inputs c.args.rows.now c.args.first c.requires.few c.requires.rows c.requires.first c.in-None.ensures)

pub returns-in-Some : goal.returns-in-Some
returns-in-Some c = first_pair c.args.sequential c.args.inputs c.args.rows.now c.args.first c.in-Some.second c.requires.rows c.requires.states c.requires.first c.in-Some.ensures
