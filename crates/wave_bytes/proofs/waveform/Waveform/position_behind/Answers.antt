-- The front has the position of the next place.
use Rattle.std.proofs.Common.{◌≡◌, ◌<◌, ◌%◌, ◌∙◌, length, map, ap, sym, subst, arith}
use Rattle.std.proofs.lemmas.List.{length-map}
use Rattle.design_circuit.specs.Circuit.{job_in}
use Rattle.design_circuit.specs.Job.{places_of}
use Rattle.wave_bytes.specs.Byte.{written_of_byte}
use Rattle.wave_bytes.specs.View.{HasMore, WaveformView, job}
use Rattle.wave_bytes.proofs.waveform.Waveform.position_behind.Goals as goal

pub returns : goal.returns
returns c =
    let j = job_in c.self.inside.circuit in
    let bytes = c.self.inside.rows.bytes in
    let long = length-map bytes written_of_byte in
    let more : length (map written_of_byte bytes) < places_of j = subst HasMore (sym c.self.view_is) c.requires in
    subst (λ (v : WaveformView). c.self.inside.front.position ≡ length v.written % (job v).width) c.self.view_is
    ((c.self.invariant.front (omega (arith, long, more))).position ∙ ap (λ n. n % j.width) (sym long))
