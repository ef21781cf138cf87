-- A place is carried from one that is written.
use Rattle.std.proofs.Common.{◌≡◌, ◌∙◌, sym, ap, subst}
use Rattle.design_circuit.specs.Job.{Job, places_of}
use Rattle.wave_proved.specs.Contents.{FromWithin, job}
use Rattle.wave_due.specs.OfWaveBytes as view
use Rattle.wave_due.specs.OfWaveBytes.{next_class}
use Rattle.wave_proved.proofs.NextClass.{next_from_job}
use Rattle.wave_proved.proofs.wave.Wave.class.Goals as goal

pub seen_class-requires : goal.seen_class-requires
seen_class-requires c = record {
  within =
      let waveform = c.self.inside.parts.value.waveform in
      let is = subst (λ parts. c.next_class.result ≡ next_class (view.job parts.waveform) parts.waveform.written)
      c.deref.ensures c.next_class.ensures in
      subst (λ (j : Job). FromWithin (places_of j) c.in-Some.class) (ap job c.self.view_is ∙ sym c.circuit.ensures.job)
      (next_from_job (view.job waveform) c.self.invariant.wave.fits.fits_job waveform.written c.in-Some.class
      (sym is ∙ c.in-Some.is));
}
