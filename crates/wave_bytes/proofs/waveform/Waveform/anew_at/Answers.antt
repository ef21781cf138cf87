-- They are those of the rows.
use Rattle.std.proofs.Common.{◌≡◌, ◌+◌, ◌*◌, ◌≤◌, length, map, sym, subst, arith}
use Rattle.std.proofs.lemmas.List.{length-map}
use Rattle.design_circuit.specs.Circuit.{job_in}
use Rattle.wave_bytes.specs.Byte.{written_of_byte}
use Rattle.wave_bytes.specs.Changed.{AreAnewAt}
use Rattle.wave_bytes.specs.Rows.{AreAnewBetween}
use Rattle.wave_bytes.specs.View.{WaveformView, job}
use Rattle.wave_bytes.proofs.AnewPlaces.{anew_of_step}
use Rattle.wave_bytes.proofs.waveform.Waveform.anew_at.Goals as goal

pub returns : goal.returns
returns c =
    let j = job_in c.self.inside.circuit in
    let rows = c.self.inside.rows in
    let step = c.args.step in
    let w_is : c.width_of-width.result ≡ j.width = c.width_of-width.ensures in
    let whole : (step + 1) * j.width ≤ length (map written_of_byte rows.bytes) =
    subst (λ (v : WaveformView). (step + 1) * (job v).width ≤ length v.written) (sym c.self.view_is) c.requires.whole in
    let long = length-map rows.bytes written_of_byte in
    subst (λ (v : WaveformView). AreAnewAt (job v) v.written step c.anew_between.result.now) c.self.view_is
    (anew_of_step j rows step c.anew_between.result.now c.self.invariant.rows c.requires.later (omega (arith, whole, long))
    (subst (λ w. AreAnewBetween rows (step * w) (step * w + w) c.anew_between.result.now) w_is c.anew_between.ensures))
