-- A place between has the byte of its net's place a step before, written again, which says that the net keeps.
use Rattle.std.proofs.Common.{◌≤◌, ◌-◌, ◌∙◌, ℕ, List, length, map, ap, sym, subst, arith}
use Rattle.std.specs.Prelude.{slice_index_or}
use Rattle.std.proofs.lemmas.List.{length-map}
use Rattle.design_circuit.specs.Circuit.{job_in}
use Rattle.wave_bytes.specs.Byte.{facts_of_byte, written_of_byte}
use Rattle.wave_bytes.specs.Changed.{AllKeepFrom}
use Rattle.wave_bytes.specs.View.{WaveformView, job}
use Rattle.wave_bytes.proofs.ByteDigits.{repeated_says}
use Rattle.wave_bytes.proofs.RepeatedBytes.{keeps_told}
use Rattle.wave_bytes.proofs.waveform.Waveform.anew_from.Goals as goal

pub anew_from-requires-clause-end : goal.anew_from-requires-clause-end
anew_from-requires-clause-end c =
    let bytes = c.self.inside.rows.bytes in
    let long = length-map bytes written_of_byte in
    let end : c.args.end ≤ length (map written_of_byte bytes) =
    subst (λ (v : WaveformView). c.args.end ≤ length v.written) (sym c.self.view_is) c.requires.end in
    omega (arith, long, end)

pub returns-clause-keep : goal.returns-clause-keep
returns-clause-keep c =
    subst (λ (v : WaveformView). AllKeepFrom (job v) v.written c.args.number c.anew_from.result) c.self.view_is each
  where
    bytes : List ℕ
    bytes = c.self.inside.rows.bytes

    each : AllKeepFrom (job_in c.self.inside.circuit) (map written_of_byte bytes) c.args.number c.anew_from.result
    each k less from =
        let long = length-map bytes written_of_byte in
        let end : c.args.end ≤ length (map written_of_byte bytes) =
        subst (λ (v : WaveformView). c.args.end ≤ length v.written) (sym c.self.view_is) c.requires.end in
        let up = c.anew_from.ensures.within in
        let later : (job_in c.self.inside.circuit).width ≤ c.args.number =
        subst (λ (v : WaveformView). (job v).width ≤ c.args.number) (sym c.self.view_is) c.requires.later in
        let width = c.self.invariant.rows.width in
        sym (keeps_told (job_in c.self.inside.circuit) c.self.inside.circuit.fits.fits_job bytes k
        (omega (arith, long, end, up, less)) c.self.invariant.within c.self.invariant.kept.told)
        ∙ ap (λ byte. (facts_of_byte byte).keeps)
        (c.anew_from.ensures.again k from less (omega (arith, width, later, from)))
        ∙ ap (λ facts. facts.keeps) (repeated_says (slice_index_or bytes (k - c.self.inside.rows.width) 0))
