-- A carried place is carried from one of the job.
use Rattle.std.proofs.Common.{◌<◌, sym, subst}
use Rattle.design_circuit.specs.Job.{Job, places_of}
use Rattle.design_circuit.specs.Waveform.{certain}
use Rattle.wave_proved.specs.Contents.{FromWithin, job}
use Rattle.wave_proved.proofs.NextClass.{class_from_job}
use Rattle.wave_proved.proofs.wave.Wave.class_at.Goals as goal

pub seen_class-requires : goal.seen_class-requires
seen_class-requires c = record {
  within =
      let wave = c.args.self.now in
      let number = c.number_of-number.result in
      let same = c.circuit-circuit.ensures.job in
      subst (λ (j : Job). FromWithin (places_of j) c.class_by_number.result) (sym same)
      (subst (FromWithin (places_of (job wave))) (sym c.class_by_number.ensures)
      (class_from_job (job wave) c.circuit-circuit.ensures.wave.fits.fits_job (certain wave.written) number
      (subst (λ (j : Job). number < places_of j) same c.number_of-number.ensures.within)));
}
