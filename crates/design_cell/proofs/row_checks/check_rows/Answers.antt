-- What the earlier refusals leave of each row.
use Rattle.design_cell.proofs.Rows.{are_rows, are_stateless}
use Rattle.design_cell.proofs.row_checks.check_rows.Goals as goal

pub check_conflicts-requires-clause-rows : goal.check_conflicts-requires-clause-rows
check_conflicts-requires-clause-rows c = are_rows c.args.sequential c.args.inputs c.args.rows.now (record { lengths = c.in_default.ensures; symbols = c.in_default-check_symbols.ensures; edges = c.in_default-check_edges.ensures })

pub check_conflicts-requires-clause-states : goal.check_conflicts-requires-clause-states
check_conflicts-requires-clause-states c = are_stateless c.args.sequential c.args.inputs c.args.rows.now (record { lengths = c.in_default.ensures; symbols = c.in_default-check_symbols.ensures; edges = c.in_default-check_edges.ensures })
