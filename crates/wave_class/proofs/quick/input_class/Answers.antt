-- An input that the recording knows has that bit.
use Rattle.std.proofs.Common.{◌/◌, true, false, ◌∙◌, sym, ap}
use Rattle.design_circuit.specs.Circuit.{job_in}
use Rattle.design_circuit.specs.Job.{net_of}
use Rattle.wave_class.proofs.QuickClasses.{input_is}
use Rattle.wave_class.proofs.quick.input_class.Goals as goal

pub returns-in-Zero : goal.returns-in-Zero
returns-in-Zero g c =
    let asked = c.args.asked.now in
    let j = job_in asked.circuit.now in
    sym (input_is j (g.E.Source.reads asked.earlier.now) asked.place false c.requires.driver
    (ap (λ s. j.recorded (s / j.rounds) (net_of j asked.place)) (sym c.spot_of-spot.ensures.step)
    ∙ ap (j.recorded (c.spot_of-spot.result.step / j.rounds)) (sym c.spot_of-spot.ensures.net)
    ∙ sym c.recorded_at.ensures ∙ c.in-Zero.is))

pub returns-in-One : goal.returns-in-One
returns-in-One g c =
    let asked = c.args.asked.now in
    let j = job_in asked.circuit.now in
    sym (input_is j (g.E.Source.reads asked.earlier.now) asked.place true c.requires.driver
    (ap (λ s. j.recorded (s / j.rounds) (net_of j asked.place)) (sym c.spot_of-spot.ensures.step)
    ∙ ap (j.recorded (c.spot_of-spot.result.step / j.rounds)) (sym c.spot_of-spot.ensures.net)
    ∙ sym c.recorded_at.ensures ∙ c.in-One.is))
