-- The line of one clause more.
use Rattle.std.proofs.Common.{rules}
use Rattle.sat_dimacs.specs.Text.{clause_line}
use Rattle.sat_dimacs.proofs.Growing.{one_moved}
use Rattle.sat_dimacs.proofs.write.put_clauses.Goals as goal

pub clauses-preserved : goal.clauses-preserved
clauses-preserved c =
    one_moved c.args.clauses.now c.clauses.place c.index-clauses-place.result (search rules) c.index-clauses-place.is clause_line _ _ _
    c.clauses.invariant (rw (← c.as_slice.ensures.value) c.in_ok-put_clause.ensures)
