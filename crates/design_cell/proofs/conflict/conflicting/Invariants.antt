-- The loop of `conflicting`.
use Rattle.std.proofs.Common.{◌*◌}
use Rattle.design_cell.specs.Row.{row_at}
use Rattle.design_cell.specs.Index.{IsFirstBelow}
use Rattle.design_cell.specs.Meeting.{is_conflict}
use Rattle.design_cell.proofs.conflict.conflicting.Given as goal

abbrev pub invariant-loop-k : goal.invariant-loop-k
invariant-loop-k l = IsFirstBelow (is_conflict l.inputs (row_at l.rows l.row)) l.rows (64 * l.k) l.found
