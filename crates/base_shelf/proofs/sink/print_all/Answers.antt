-- The turn of `print_all` that grows the sink, and the one that fails.
use Rattle.std.proofs.Common.{rules, ◌≡◌, Err}
use Rattle.base_shelf.proofs.WriteSteps.{print_grows, print_fails}
use Rattle.base_shelf.specs.Errors.{write_err}
use Rattle.base_shelf.proofs.sink.print_all.Goals as goal

pub returns-in_err-count : goal.returns-in_err-count
returns-in_err-count g c =
    let is : c.from_residual.result ≡ Err (write_err c.in_err-count.field-0.0) = search rules in
    rw is (print_fails _ _ _ _ _ _ _ _ c.turns.invariant (search rules) c.in_err-count.ensures)

pub turns-preserved : goal.turns-preserved
turns-preserved g c = print_grows _ _ _ _ _ _ _ c.turns.invariant c.in_ok-count.ensures
