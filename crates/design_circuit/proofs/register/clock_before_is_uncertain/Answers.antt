-- What stands before a step stands before the next one.
use Rattle.std.proofs.Common.{◌-◌, ◌*◌, ◌≤◌, arith}
use Rattle.std.proofs.Math.Nat.{mul-le-mul_right}
use Rattle.design_circuit.specs.Circuit.{job_in}
use Rattle.design_circuit.proofs.register.clock_before_is_uncertain.Goals as goal

pub clock_is_uncertain-requires-clause-has : goal.clock_is_uncertain-requires-clause-has
clock_is_uncertain-requires-clause-has g c = λ place less.
    let width = (job_in c.args.circuit.now).width in
    let more : (c.args.step - 1) * width ≤ c.args.step * width = mul-le-mul_right width (omega arith) in
    c.requires.has place (omega (arith, more, less))

pub clock_is_uncertain-requires-clause-small : goal.clock_is_uncertain-requires-clause-small
clock_is_uncertain-requires-clause-small g c =
    let width = (job_in c.args.circuit.now).width in
    let more : (c.args.step - 1) * width ≤ c.args.step * width = mul-le-mul_right width (omega arith) in
    let small = c.requires.small in
    omega (arith, more, small)
