-- The rows so far.
use Rattle.std.proofs.Common.{◌≡◌, map, take}
use Rattle.design_circuit.specs.Circuit.{job_in}
use Rattle.report_blame.specs.Tally.{row_at}
use Rattle.report_blame.proofs.table.rows_at.Given as goal

abbrev pub invariant-rows : goal.invariant-rows
invariant-rows l = l.table.items ≡ map (row_at (job_in l.circuit)) (take l.row-index l.rows)
