-- The place of the line's number.
use Rattle.std.proofs.Common.{arith}
use Rattle.cert_check.proofs.Dues.{named_before, named_here}
use Rattle.cert_check.proofs.due.due_of.Goals as goal

pub returns-then-number-count : goal.returns-then-number-count
returns-then-number-count c =
    named_here c.args.wave.now c.args.line.now _ c.number_of-number.result c.count.result c.count.ensures.wave c.circuit-circuit.ensures.job (c.has_place.ensures.0 c.if-not-has_place.false)
    c.number_of-number.ensures.number c.count.ensures.count c.if-number-count.true

pub returns-else-count-number : goal.returns-else-count-number
returns-else-count-number c =
    named_before c.args.wave.now c.args.line.now _ c.number_of-number.result c.count.result c.count.ensures.wave c.requires c.circuit-circuit.ensures.job
    c.number_of-number.ensures.number c.count.ensures.count
    (omega (arith, c.if-count-number.false, c.if-number-count.false, c.count.ensures.count, c.count-else-number-count.ensures.count))
