-- The history has each place of the job.
use Rattle.std.proofs.Common.{◌≡◌, ◌<◌, ◌∙◌, length, ap, sym, subst}
use Rattle.design_circuit.specs.Fits.{place_at}
use Rattle.design_circuit.specs.Job.{places_of, step_of}
use Rattle.design_circuit.proofs.Handed.{handed_places, has_place}
use Rattle.design_circuit.proofs.Numbers.{is_place_at}
use Rattle.wave_proved.specs.Contents.{Contents, job}
use Rattle.wave_proved.specs.Token.{HasNext}
use Rattle.wave_due.specs.OfWaveBytes as view
use Rattle.wave_proved.proofs.wave.Wave.shown_next.Goals as goal

pub shown-requires : goal.shown-requires
shown-requires c =
    let waveform = c.self.inside.parts.value.waveform in
    let j = view.job waveform in
    let history = c.self.inside.parts.value.walk.replayed.history in
    let fits = c.self.invariant.wave.fits.fits_job in
    let less : length waveform.written < places_of j = subst HasNext (sym c.self.view_is) c.requires in
    let place : c.place_behind.result ≡ place_at j (length waveform.written) =
    c.place_behind.ensures ∙ ap (λ (v : Contents). place_at (job v) (length v.written)) (sym c.self.view_is) in
    let step : c.self.inside.parts.value.walk.replayed.step ≡ step_of j (length waveform.written) =
    c.self.invariant.walk.reads less in
    rw (place, c.deref.ensures, step) (has_place j history _ (handed_places j history c.self.invariant.wave.handed)
    (is_place_at j (length waveform.written) fits.ordering fits.all less))
