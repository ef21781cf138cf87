-- A byte tells whether its net keeps.
use Rattle.std.proofs.Common.{◌≡◌, ◌<◌, ◌∙◌, length, map, ap, sym, subst, arith}
use Rattle.std.proofs.lemmas.List.{length-map}
use Rattle.design_circuit.specs.Circuit.{job_in}
use Rattle.wave_bytes.specs.Byte.{facts_of_byte, written_of_byte}
use Rattle.wave_bytes.specs.View.{WaveformView, job, keeps_there}
use Rattle.wave_bytes.proofs.RepeatedBytes.{keeps_told}
use Rattle.wave_bytes.proofs.waveform.Waveform.keeps.Goals as goal

pub returns : goal.returns
returns c =
    let bytes = c.self.inside.rows.bytes in
    let long = length-map bytes written_of_byte in
    let less : c.args.number < length (map written_of_byte bytes) =
    subst (λ (v : WaveformView). c.args.number < length v.written) (sym c.self.view_is) c.requires in
    subst (λ (v : WaveformView). c.keeps.result ≡ keeps_there (job v) v.written c.args.number) c.self.view_is
    (c.keeps.ensures ∙ ap (λ byte. (facts_of_byte byte).keeps) c.byte.ensures
    ∙ keeps_told (job_in c.self.inside.circuit) c.self.inside.circuit.fits.fits_job bytes c.args.number
    (omega (arith, long, less)) c.self.invariant.within c.self.invariant.kept.told)
