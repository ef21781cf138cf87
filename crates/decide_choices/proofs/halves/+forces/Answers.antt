use Rattle.std.proofs.Common.{◌-◌, sym, ◌∙◌, arith}
use Rattle.decide_choices.proofs.ForcedHalves.{by_both, by_high, by_low, by_neither, by_value}
use Rattle.decide_choices.proofs.halves.+forces.Goals as goal

pub returns-then-count-eq0 : goal.returns-then-count-eq0
returns-then-count-eq0 t c = by_value c.args.values.now c.args.count c.args.bit c.args.choice c.first_is.result
    c.if-count-eq0.true c.first_is.ensures

pub returns-then-forces : goal.returns-then-forces
returns-then-forces t c = by_both c.args.values.now c.split_last.result.0.now c.split_last.result.1.now c.args.count
    (c.args.count - 1)
    (record { next = omega arith; low_is = c.split_last.ensures.low; high_is = c.split_last.ensures.high }) c.args.bit
    c.args.choice c.forces.result c.forces-then-forces.result (sym c.has.ensures ∙ c.if-not-has.true)
    c.if-forces.true c.forces.ensures c.forces-then-forces.ensures

pub returns-else-forces : goal.returns-else-forces
returns-else-forces t c = by_neither c.args.values.now c.split_last.result.0.now c.split_last.result.1.now c.args.count
    (c.args.count - 1)
    (record { next = omega arith; low_is = c.split_last.ensures.low; high_is = c.split_last.ensures.high }) c.args.bit
    c.args.choice c.forces.result (sym c.has.ensures ∙ c.if-not-has.true) c.if-forces.false c.forces.ensures

pub returns-then-bit : goal.returns-then-bit
returns-then-bit t c = by_high c.args.values.now c.split_last.result.0.now c.split_last.result.1.now c.args.count
    (c.args.count - 1)
    (record { next = omega arith; low_is = c.split_last.ensures.low; high_is = c.split_last.ensures.high }) c.args.bit
    c.args.choice c.forces-then-bit.result (sym c.has.ensures ∙ c.if-not-has.false)
    (sym c.bit.ensures ∙ c.if-bit.true) c.forces-then-bit.ensures

pub returns-else-bit : goal.returns-else-bit
returns-else-bit t c = by_low c.args.values.now c.split_last.result.0.now c.split_last.result.1.now c.args.count
    (c.args.count - 1)
    (record { next = omega arith; low_is = c.split_last.ensures.low; high_is = c.split_last.ensures.high }) c.args.bit
    c.args.choice c.forces-else-bit.result (sym c.has.ensures ∙ c.if-not-has.false)
    (sym c.bit.ensures ∙ c.if-bit.false) c.forces-else-bit.ensures
