-- The argument places of a place are places of the job.
use Rattle.std.proofs.Common.{◌≡◌, ◌<◌, ◌∙◌, sym, ap, subst}
use Rattle.std.specs.List.{AllByRecursion}
use Rattle.design_circuit.specs.Circuit.{job_in}
use Rattle.design_circuit.specs.Job.{Job, places_of}
use Rattle.design_circuit.specs.Waveform.{certain}
use Rattle.law_model.specs.Assignment.{argument_places}
use Rattle.wave_proved.specs.Contents.{job}
use Rattle.wave_due.specs.OfWaveBytes as view
use Rattle.wave_proved.proofs.NextClass.{arguments_within}
use Rattle.wave_proved.proofs.wave.Wave.arguments.Goals as goal

pub places_of_numbers-requires-clause-within : goal.places_of_numbers-requires-clause-within
places_of_numbers-requires-clause-within c =
    let waveform = c.self.inside.parts.value.waveform in
    let number = c.number_of-number.result in
    let jobs : view.job waveform ≡ job_in c.circuit-circuit.result =
    ap job c.self.view_is ∙ sym c.circuit-circuit.ensures.job in
    rw (c.as_slice.ensures.places, c.argument_places-numbers.ensures, c.deref.ensures)
    (subst (λ (j : Job). AllByRecursion (λ k. k < places_of j)
    (argument_places (view.job waveform) (certain waveform.written) number)) jobs
    (arguments_within (view.job waveform) (certain waveform.written) number
    (subst (λ (j : Job). number < places_of j) (sym jobs) c.number_of-number.ensures.within)))
