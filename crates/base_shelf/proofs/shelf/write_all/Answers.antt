-- The turn of `write_all` that grows the file, and the one that fails.
use Rattle.std.proofs.Common.{rules, ◌≡◌, Err}
use Rattle.base_shelf.proofs.WriteSteps.{write_grows, write_fails}
use Rattle.base_shelf.specs.Errors.{write_err}
use Rattle.base_shelf.proofs.shelf.write_all.Goals as goal

pub returns-in_err-count : goal.returns-in_err-count
returns-in_err-count g c =
    let is : c.from_residual-in_err-count.result ≡ Err (write_err c.in_err-count.field-0.0) = search rules in
    let fails = write_fails _ _ _ _ _ _ _ _ _ c.turns.invariant (c.in_err-count.ensures _ c.turns.invariant.hand) in
    rw is fails

pub turns-preserved : goal.turns-preserved
turns-preserved g c = write_grows _ _ _ _ _ _ _ _ c.turns.invariant (c.in_ok-count.ensures _ c.turns.invariant.hand)
