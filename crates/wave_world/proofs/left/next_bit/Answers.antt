-- Where the first place that is left hasn't the number, all that is left is behind it.
use Rattle.std.proofs.Common.{◌∙◌, sym}
use Rattle.design_circuit.specs.Circuit.{job_in}
use Rattle.wave_world.proofs.Reading.{still_left, none_at}
use Rattle.wave_world.proofs.left.next_bit.Goals as goal

pub returns-else-number_of-place-clause-left : goal.returns-else-number_of-place-clause-left
returns-else-number_of-place-clause-left c =
    let j = job_in c.args.circuit.now in
    still_left j c.args.place c.args.left.now _ (λ is. c.if-number_of-place.false (c.number_of.ensures.number ∙ is)) c.requires.left

pub returns-else-number_of-place-clause-bit : goal.returns-else-number_of-place-clause-bit
returns-else-number_of-place-clause-bit c =
    let j = job_in c.args.circuit.now in
    sym (none_at j c.args.place c.args.left.now (returns-else-number_of-place-clause-left c))
