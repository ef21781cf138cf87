-- The line in the middle tells on which side of it the number is.
use Rattle.std.proofs.Common.{◌+◌, ◌-◌, ◌/◌, ◌≡◌, arith, subst}
use Rattle.design_circuit.specs.Circuit.{job_in}
use Rattle.wave_proved.specs.Pairs.{AreParted}
use Rattle.wave_proved.proofs.FoundLines.{before_more, behind_more, number_here, place_here}
use Rattle.wave_proved.proofs.stated.lines_before.Goals as goal

pub number_of-requires : goal.number_of-requires
number_of-requires c = record {
  within =
      let within = c.halves.invariant.within in
      place_here (job_in c.args.circuit.now) c.args.lines.now (c.halves.low + (c.halves.high - c.halves.low) / 2)
      c.index-lines-middle.result (omega arith) c.requires.order.places;
}

pub halves-preserved-then-number_of-number : goal.halves-preserved-then-number_of-number
halves-preserved-then-number_of-number c =
    let j = job_in c.args.circuit.now in
    let middle = c.halves.low + (c.halves.high - c.halves.low) / 2 in
    let within = c.halves.invariant.within in
    let here = number_here j c.args.lines.now middle c.index-lines-middle.result (omega arith) in
    let number = c.number_of.ensures.number in
    let less = c.if-number_of-number.true in
    record {
      bounds = omega arith;
      within = within;
      before = before_more j c.args.lines.now middle c.args.number c.requires.order (omega arith)
          (omega (arith, here, number, less));
      behind = c.halves.invariant.behind;
    }

pub halves-preserved : goal.halves-preserved
halves-preserved c =
    let j = job_in c.args.circuit.now in
    let middle = c.halves.low + (c.halves.high - c.halves.low) / 2 in
    let within = c.halves.invariant.within in
    let here = number_here j c.args.lines.now middle c.index-lines-middle.result (omega arith) in
    let number = c.number_of.ensures.number in
    let less = c.if-number_of-number.false in
    record {
      bounds = omega arith;
      within = omega arith;
      before = c.halves.invariant.before;
      behind = behind_more j c.args.lines.now middle c.args.number c.requires.order (omega (arith, here, number, less));
    }

pub returns : goal.returns
returns c =
    let low = c.halves.invariant.bounds in
    let end = c.halves-test.false in
    subst (AreParted (job_in c.args.circuit.now) c.args.lines.now c.args.number c.halves.low)
    (let same : c.halves.high ≡ c.halves.low = omega (arith, low, end) in same) c.halves.invariant
