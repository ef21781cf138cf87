-- The last change of the position, or none.
use Rattle.std.proofs.Common.{◌∙◌, ◌-◌, arith, sym}
use Rattle.base_ledger.proofs.Rows.{value_all_last, value_all_none}
use Rattle.base_ledger.proofs.ledger.value_after.Goals as goal

pub returns : goal.returns
returns c width less =
    let end = c.changes-test.false in
    value_all_none width c.args.first c.args.changes.now c.args.position less (λ i inside. c.changes.invariant.none i (omega (arith, end)) inside)

pub returns-then-position : goal.returns-then-position
returns-then-position c width less =
    let some = c.changes-test.true in
    let within = c.changes.invariant.within in
    c.payload.ensures
    ∙ value_all_last width c.args.first c.args.changes.now c.args.position (c.changes.count - 1) less (omega (arith, some, within)) (sym c.position.ensures ∙ c.if-position.true) (λ i more inside. c.changes.invariant.none i (omega (arith, more, some)) inside)
