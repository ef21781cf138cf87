-- The values of all numbers are the whole table.
use Rattle.std.proofs.Common.{rules, ◌≡◌, ◌^◌, ◌∙◌, ap}
use Rattle.design_circuit.specs.Job.{number_of}
use Rattle.wave_proved.specs.Contents.{job}
use Rattle.cert_condition.proofs.WholeValues.{number_within, whole_all}
use Rattle.cert_condition.proofs.whole.whole_values.Goals as goal

pub returns : goal.returns
returns c =
    let end : c.numbers.number ≡ 2 ^ c.args.count = search rules in
    whole_all c.args.wave.now (number_of (job c.args.wave.now) c.args.place) c.numbers.number c.numbers.values.items
    c.recall.ensures
    (number_within (job c.args.wave.now) c.recall.ensures.fits.fits_job c.args.place c.requires.reached.within)
    (end ∙ ap (λ n. 2 ^ n) c.requires.count) c.numbers.invariant
